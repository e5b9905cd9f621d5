use Rattle.std.proofs.Common.{map, take}
use Rattle.am_board.specs.Forgetting.{AddsLabelsOf}
use Rattle.am_board.specs.Refinement.{member_state}
use Rattle.am_board.proofs.forget.add_labels.Given as goal

-- the label sets of the alerts so far were added
abbrev pub invariant-loop-member : goal.invariant-loop-member
invariant-loop-member l = AddsLabelsOf (map member_state (take l.member-index l.members)) l.fn.sets.keys l.sets.keys
