use Rattle.std.proofs.Common.{◌≡◌, ◌∙◌, ap, None, Some, rules}
use Rattle.am_alerts.specs.declared.matcher.MatcherParts.{MatcherParts}
use Rattle.am_alerts.specs.Matcher.{is_passed, is_text, passes, pattern_of}
use Rattle.am_alerts.proofs.Compared.{passes-pattern, passes-text}
use Rattle.am_alerts.proofs.matcher.Matcher.matches.Goals as goal
use Rattle.am_alerts.proofs.matcher.Matcher.matches.Goals.{in-None, in-Some+in_ok-same-in-Some}

pub returns-clause-value : goal.returns-clause-value
returns-clause-value c =
    let m = c.args.self.now in
    let value = c.value_in-value.result.now in
    let found : passes m.op m.value value ≡ _ = ap (passes m.op m.value) c.value_in-value.ensures in
    elim c.match-self.branch [
      | in-None w ↦
          let none : pattern_of m ≡ None = search rules in
          c.is_passed.ensures ∙ ap (is_passed m.op) (w.same-is ∙ w.is_text-same.ensures ∙ ap (λ (p : MatcherParts). is_text p.op p.value value) c.self.view_is)
          ∙ passes-text m value (search rules) none ∙ found
      | in-Some+in_ok-same-in-Some w ↦
          let some : pattern_of m ≡ Some _ = search rules in
          c.is_passed.ensures ∙ ap (is_passed m.op) (w.same-is ∙ w.in_ok-same-in-Some.ensures)
          ∙ passes-pattern m value w.in-Some.pattern some ∙ found
    ]
