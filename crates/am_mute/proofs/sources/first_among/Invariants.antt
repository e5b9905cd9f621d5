use Rattle.std.proofs.Common.{◌≡◌}
use Rattle.am_mute.specs.Inhibit.{is_inhibited_by}
use Rattle.am_mute.proofs.BucketWalk.{AreLeft}
use Rattle.am_mute.proofs.sources.first_among.Given as goal

-- the target is as it was, and each source for it has its key among those that are left
abbrev pub invariant-loop-key : goal.invariant-loop-key
invariant-loop-key l =
    (goal.iterator-loop-key).can_next l.key-iterator
    × (goal.iterator-loop-key).is_finite l.key-iterator
    × (l.target ≡ l.initial.target)
    × AreLeft (is_inhibited_by l.initial.target.rule l.initial.target.t l.initial.target.labels) l.alerts l.number l.hash l.key-iterator
