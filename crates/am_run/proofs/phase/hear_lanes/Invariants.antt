use Rattle.std.proofs.Common.{take}
use Rattle.am_run.specs.LaneStates.{AnyRefused, NoneRefused}
use Rattle.am_run.specs.PhaseFaults.{EndsAsFull, HasNoFault}
use Rattle.am_run.proofs.phase.hear_lanes.Given as goal

-- the refused calls of the lanes so far are faults of the phase
abbrev pub invariant-loop-lane : goal.invariant-loop-lane
invariant-loop-lane g l = record {
  heard : HasNoFault l.faults → HasNoFault l.fn.faults × NoneRefused (take l.lane l.lane_states);
  full : HasNoFault l.fn.faults → EndsAsFull l.faults → AnyRefused (take l.lane l.lane_states);
}
