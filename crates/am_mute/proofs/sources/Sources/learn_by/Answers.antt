use Rattle.std.proofs.Common.{◌≡◌, ℕ, ◌+◌, List, sym, ap, ◌∙◌, subst}
use Rattle.am_alerts.specs.Matcher.{match_all}
use Rattle.am_alerts.specs.declared.matcher.MatcherParts.{MatcherParts}
use Rattle.am_mute.specs.SourceIndex.{SourceIndex}
use Rattle.am_mute.specs.Sources.{Grows, HasKeys, HasKeysFrom}
use Rattle.am_mute.specs.Target.{values_hash}
use Rattle.am_mute.proofs.Learning.{grows_none, grows_twice, has_next, has_none, has_source}
use Rattle.am_mute.proofs.sources.Sources.learn_by.Goals as goal
use Rattle.am_mute.proofs.sources.Sources.learn_by.Goals.{then-branch+in_ok-is_one_sided+in_ok-put, else-branch}

pub loop-index-preserved : goal.loop-index-preserved
loop-index-preserved c =
    let number = c.args.number in
    let rule = c.args.rule.now in
    let known = c.args.known.now in
    let index = c.loop-index.index in
    let first = c.args.self.now in
    let old = c.loop-index.self in
    let alert = c.index-known-index.result in
    let labels = c.labels-labels.result.now in
    let labelled : labels ≡ alert.labels = c.labels-labels.ensures.labels in
    let source = c.all_match.ensures.kept ∙ c.loop-index.invariant.0 in
    let fact = c.in_ok-all_match.ensures.value ∙ ap (λ (ms : List MatcherParts). match_all ms labels) c.loop-index.invariant.0 in
    elim c.if-branch.branch [
      | then-branch+in_ok-is_one_sided+in_ok-put w ↦
          let new = w.put.new.self in
          let grows = w.put.ensures.grows in
          let hashed =
          w.values_hash.ensures
          ∙ (ap (λ (es : List (List ℕ)). values_hash w.self-then-branch.inside.seed es labels) w.equal.ensures.equal
          ∙ (ap (λ (s : SourceIndex). values_hash s.seed rule.equal labels) w.self-then-branch.view_is
          ∙ ap (λ seed. values_hash seed rule.equal labels) (sym grows.seed))) in
          let two = w.in_ok-is_one_sided.ensures.value
          ∙ ap (λ (ms : List MatcherParts). match_all ms labels) c.loop-index.invariant.1 in
          let next = has_source number rule index labels new w.values_hash.result hashed w.in_ok-put.ensures.all
          w.in_ok-is_one_sided.field-0 two w.in_ok-put.ensures.one_sided in (
            source,
            w.target-is ∙ (w.all_match-then-branch.ensures.kept ∙ c.loop-index.invariant.1),
            subst (Grows first) (sym w.self-is) (grows_twice first old new c.loop-index.invariant.2 grows),
            subst (HasKeysFrom number rule known first.learnt (index + 1)) (sym w.self-is)
                (has_next number rule known first.learnt index old new grows c.loop-index.invariant.3 c.loop-index-test.true alert
                c.index-known-index.is (subst (λ ls. HasKeys number rule index ls new) labelled next)),
          )
      | else-branch w ↦
          let next = has_none number rule index labels old (sym fact ∙ w.if-branch.false) in (
            source,
            w.target-is ∙ c.loop-index.invariant.1,
            subst (Grows first) (sym w.self-is) c.loop-index.invariant.2,
            subst (HasKeysFrom number rule known first.learnt (index + 1)) (sym w.self-is)
                (has_next number rule known first.learnt index old old (grows_none old) c.loop-index.invariant.3
                c.loop-index-test.true alert c.index-known-index.is
                (subst (λ ls. HasKeys number rule index ls old) labelled next)),
          )
    ]
