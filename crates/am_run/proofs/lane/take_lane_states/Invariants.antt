use Rattle.std.proofs.Common.{◌≡◌, length, map, take}
use Rattle.am_scenario.specs.declared.scenario.Lane.{Lane}
use Rattle.am_run.proofs.lane.take_lane_states.Given as goal

-- each lane so far has its state
abbrev pub invariant-loop-number : goal.invariant-loop-number
invariant-loop-number g l = record {
  count : length l.lane_states ≡ length l.fn.lane_states;
  passes : map (λ s. s.pass) l.lane_states ≡ map (λ s. s.pass) l.fn.lane_states;
  calls : map (λ s. s.calls) (take (length l.yielded) l.lane_states) ≡ map (λ (p : Lane). p.calls) (take (length l.yielded) l.fn.lanes.items);
}
