use Rattle.std.proofs.Common.{rules, ◌≡◌, ◌++◌, ◌∷◌, ◌∙◌, ℕ, List, Option, [], ap, append_assoc, string_bytes, subst, sym}
use Rattle.std.proofs.lemmas.Bool.{false≢true}
use Rattle.std.specs.Prelude.{IsSome}
use Rattle.serde_json.proofs.Views.{Entry}
use Rattle.serde_json.specs.View.{members_view, view}
use Rattle.am_alerts.specs.declared.matcher.MatcherParts.{MatcherParts}
use Rattle.am_config.proofs.Collecting.{ok_kept}
use Rattle.am_config.proofs.Matched.{adds_none, adds_pair}
use Rattle.am_config.specs.Matchers.{ArePairs, IsPair}
use Rattle.am_config.proofs.matchers.read_pairs.Goals as goal

pub loop-label-init : goal.loop-label-init
loop-label-init c = (
  [],
  search rules,
  λ none. ((c.in_ok-pairs.ensures.collects none).0, adds_none (ArePairs c.args.op (members_view [])) c.args.matchers.now.items tt),
)

pub loop-label-preserved-in_default-3 : goal.loop-label-preserved-in_default-3
loop-label-preserved-in_default-3 c =
    let l = c.loop-label in
    let done = l.invariant.0 in
    let e : Entry = (c.in-Some-3.label.now, c.in-Some-3.value.now) in
    let left = c.next.new.self in
    let all : c.in-Some-2.pairs.members ≡ done ++ e ∷ left = l.invariant.1 ∙ ap (λ es. done ++ es) c.in-Some-3.ensures.steps in (
      done ++ e ∷ [],
      all ∙ sym (append_assoc done (e ∷ []) left),
      λ none. absurd (false≢true (subst (λ (o : Option MatcherParts). IsSome o) c.in_default-3.is (c.in_ok-matcher.ensures.collects none).1)),
    )

pub loop-label-preserved : goal.loop-label-preserved
loop-label-preserved c =
    let l = c.loop-label in
    let done = l.invariant.0 in
    let e : Entry = (c.in-Some-3.label.now, c.in-Some-3.value.now) in
    let left = c.next.new.self in
    let op = c.args.op in
    let m = c.in-Some-4.matcher in
    let all : c.in-Some-2.pairs.members ≡ done ++ e ∷ left = l.invariant.1 ∙ ap (λ es. done ++ es) c.in-Some-3.ensures.steps in
    let read =
    ok_kept (IsPair op c.as_str-in-loop-label.result.now (view e.1)) c.matcher_of_pair-read.result m (sym c.in-Some-4.is ∙ c.in_ok-matcher.ensures.kept)
    c.matcher_of_pair-read.ensures in (
      done ++ e ∷ [],
      all ∙ sym (append_assoc done (e ∷ []) left),
      λ none.
          let kept = c.in_ok-matcher.ensures.collects none in
          let capacity = c.in_ok-has_capacity.ensures kept.0 in
          let so_far = l.invariant.2 capacity.0 in (
            so_far.0,
            adds_pair op done e m c.args.matchers.now.items l.matchers.items c.push.new.self.items so_far.1
                (subst (λ (name : List ℕ). IsPair op name (view e.1) m) c.as_str-in-loop-label.ensures.value read) c.in_ok-push.ensures.items,
          ),
    )
