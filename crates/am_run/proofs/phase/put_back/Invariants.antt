use Rattle.std.proofs.Common.{◌≡◌, ◌++◌, ◌∷◌, length, take}
use Rattle.am_run.specs.LaneStates.{passes_in}
use Rattle.am_run.proofs.phase.put_back.Given as goal

-- the passes of the lane states so far were put back
abbrev pub invariant-loop-lane_state : goal.invariant-loop-lane_state
invariant-loop-lane_state g l = l.passes.items ≡ l.fn.passes.items ++ l.fn.main ∷ passes_in (take (length l.yielded) l.fn.lane_states.items)
