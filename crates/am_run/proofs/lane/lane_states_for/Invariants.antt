use Rattle.std.proofs.Common.{◌≡◌, ◌+◌, ◌≤◌, ◌++◌, map, vec_len, vec_capacity}
use Rattle.am_run.specs.LaneStates.{NoneRefused}
use Rattle.am_run.proofs.lane.lane_states_for.Given as goal

-- the passes of the lane states so far, and then those that are left, are all
abbrev pub invariant-loop-alloc : goal.invariant-loop-alloc
invariant-loop-alloc g l = record {
  passes : map (λ s. s.pass) l.lane_states.items ++ l.passes.items ≡ l.fn.passes.items;
  count : vec_len l.lane_states + vec_len l.passes ≡ vec_len l.fn.passes;
  well : NoneRefused l.lane_states.items;
  space : vec_len l.lane_states + vec_len l.passes ≤ vec_capacity l.lane_states;
}

abbrev pub decreases-loop-alloc : goal.decreases-loop-alloc
decreases-loop-alloc g l = vec_len l.passes
