use Rattle.std.proofs.Common.{◌≡◌, drop}
use Rattle.std.specs.List.{list_any}
use Rattle.am_judge.specs.Edge.{has_repeat_at}
use Rattle.am_judge.proofs.edge.have_repeat_at.Given as goal

-- none so far has one
abbrev pub invariant-loop-playback : goal.invariant-loop-playback
invariant-loop-playback l =
    list_any (has_repeat_at l.expectation l.notice l.at) l.playbacks
    ≡ list_any (has_repeat_at l.expectation l.notice l.at) (drop l.playback-index l.playbacks)
