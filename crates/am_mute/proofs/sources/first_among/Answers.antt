use Rattle.std.proofs.Common.{◌≡◌, ◌∷◌, refl, sym, ap, subst, ◌∙◌}
use Rattle.std.specs.Map.Iter.{deref}
use Rattle.std.proofs.lemmas.Map.Iter.{rest_more, rest_all}
use Rattle.am_mute.specs.Inhibit.{is_inhibited_by}
use Rattle.am_mute.specs.Target.{TargetData}
use Rattle.am_mute.proofs.BucketWalk.{AreLeft, walk_ends, walk_passes, walk_takes}
use Rattle.am_mute.proofs.Buckets.{left_first}
use Rattle.am_mute.proofs.sources.first_among.Goals as goal
use Rattle.am_mute.proofs.sources.first_among.Goals.{In_ok-is_inhibited_by}

-- what the target reported of the alert
holds_required : (c : In_ok-is_inhibited_by) → is_inhibited_by c.args.target.now.rule c.args.target.now.t c.args.target.now.labels
    c.index-alerts-key.result ≡ c.in_ok-is_inhibited_by.field-0
holds_required c =
    ap (λ (x : TargetData). is_inhibited_by x.rule x.t x.labels c.index-alerts-key.result) (sym c.loop-key.invariant.2)
    ∙ sym c.in_ok-is_inhibited_by.ensures.value

-- the keys that are left are the next one and those that are left after it
left : (c : In_ok-is_inhibited_by) → AreLeft (is_inhibited_by c.args.target.now.rule c.args.target.now.t c.args.target.now.labels)
    c.args.alerts.now c.args.number c.hash-hash.result (c.in-Some.key.now ∷ c.next.new.self)
left c =
    subst (AreLeft (is_inhibited_by c.args.target.now.rule c.args.target.now.t c.args.target.now.labels) c.args.alerts.now c.args.number
    c.hash-hash.result)
    (rest_more deref c.loop-key.key-iterator c.next.new.self c.next.result c.in-Some.key c.in-Some.is c.next.ensures.steps)
    c.loop-key.invariant.3

pub loop-key-init : goal.loop-key-init
loop-key-init c =
    let target = c.args.target.now in
    let range = c.range-key-items.ensures in
    let keys = c.range-key-items.result in
    let left = left_first c.args.seed c.args.number target c.args.alerts.now c.args.keys.now.keys c.requires c.hash-hash.result
    c.hash-hash.ensures keys (range.between tt) (range.in_range tt).0 range.ordered in (
      tt,
      tt,
      refl,
      subst (AreLeft (is_inhibited_by target.rule target.t target.labels) c.args.alerts.now c.args.number c.hash-hash.result)
          (sym c.into_iter-key-iterator.ensures.into_iter_gives) left,
    )

pub returns-then-branch-clause-value : goal.returns-then-branch-clause-value
returns-then-branch-clause-value c =
    let at = (goal.at.returns-then-branch-clause-value c).In_ok-is_inhibited_by in
    sym (walk_takes (is_inhibited_by c.args.target.now.rule c.args.target.now.t c.args.target.now.labels) c.args.alerts.now
    c.args.number c.hash-hash.result c.in-Some.key.now c.next.new.self c.index-alerts-key.result c.index-alerts-key.is (left at)
    (holds_required at ∙ c.if-branch.true))

pub loop-key-preserved : goal.loop-key-preserved
loop-key-preserved c =
    let at = (goal.at.loop-key-preserved c).In_ok-is_inhibited_by in (
      tt,
      tt,
      c.is_inhibited_by.ensures.kept ∙ c.loop-key.invariant.2,
      walk_passes (is_inhibited_by c.args.target.now.rule c.args.target.now.t c.args.target.now.labels) c.args.alerts.now
          c.args.number c.hash-hash.result c.in-Some.key.now c.next.new.self c.index-alerts-key.result
          c.index-alerts-key.is (left at) (holds_required at ∙ c.if-branch.false),
    )

pub returns-clause-value : goal.returns-clause-value
returns-clause-value c =
    let Left = AreLeft (is_inhibited_by c.args.target.now.rule c.args.target.now.t c.args.target.now.labels) c.args.alerts.now
    c.args.number c.hash-hash.result in
    sym (walk_ends (is_inhibited_by c.args.target.now.rule c.args.target.now.t c.args.target.now.labels) c.args.alerts.now
    c.args.number c.hash-hash.result
    (subst Left (rest_all deref c.loop-key.key-iterator c.next.new.self c.next.result c.in-None.is c.next.ensures.steps)
    c.loop-key.invariant.3))
