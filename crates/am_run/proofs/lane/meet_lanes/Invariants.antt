use Rattle.std.proofs.Common.{◌≡◌, length, map}
use Rattle.am_run.specs.LaneStates.{passes_in}
use Rattle.am_run.proofs.lemmas.lanes.Meetings.{MetSoFar}
use Rattle.am_run.proofs.lane.meet_lanes.Given as goal

-- the passes of the lane states so far were met
abbrev pub invariant-loop-lane_state : goal.invariant-loop-lane_state
invariant-loop-lane_state g l = record {
  count : length l.lane_states ≡ length l.fn.lane_states;
  refused : map (λ s. s.refused) l.lane_states ≡ map (λ s. s.refused) l.fn.lane_states;
  met : MetSoFar l.lane_state-index l.fn.main l.main (passes_in l.fn.lane_states) (passes_in l.lane_states);
}
