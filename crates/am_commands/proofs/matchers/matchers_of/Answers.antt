use Rattle.std.proofs.Common.{◌≡◌, ◌+◌, List, [], ◌∷◌, ◌++◌, map, rules, subst, sym, take}
use Rattle.std.proofs.lemmas.Result.{err_from_is_err_and}
use Rattle.am_alerts.specs.declared.matcher.MatcherParts.{MatcherParts}
use Rattle.am_commands.proofs.Writing.{none_at, write_all, write_next}
use Rattle.am_console.specs.MatcherWords.{WriteMatchers}
use Rattle.am_commands.proofs.matchers.matchers_of.Goals as goal

pub loop-text-preserved : goal.loop-text-preserved
loop-text-preserved g c =
    let pushed : c.push.new.self.items ≡ c.loop-text.matchers.items ++ c.in_ok-matcher.matcher ∷ [] = search rules in
    subst (λ (ms : List MatcherParts). WriteMatchers (map (λ text. text.now) (take (c.loop-text.text-index + 1) c.args.texts.now)) ms) (sym pushed)
    (write_next _ _ _ _ _ _ c.loop-text-test.true c.loop-text.invariant c.in_ok-matcher.ensures.written)

pub returns-clause-written : goal.returns-clause-written
returns-clause-written g c = write_all _ _ _ _ c.loop-text-test.false c.loop-text.invariant

pub returns-in_err-matcher-clause-refused : goal.returns-in_err-matcher-clause-refused
returns-in_err-matcher-clause-refused g c =
    let p = err_from_is_err_and c.from_residual.result c.from_residual.ensures.1 in
    rw (p.1, p.2) (λ is. none_at _ _ _ _ c.loop-text-test.true (c.in_err-matcher.ensures.refused is))
