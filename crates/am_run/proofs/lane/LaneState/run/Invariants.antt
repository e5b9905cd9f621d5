use Rattle.std.proofs.Common.{◌≡◌, None, length, map, take}
use mathlib.Core.List.{IsPrefix}
use Rattle.am_run.specs.Lanes.{call_at}
use Rattle.am_run.specs.LaneStates.{MadeCalls}
use Rattle.am_run.proofs.lane.LaneState.run.Given as goal

-- the calls so far were made, and none was refused
abbrev pub invariant-loop-position : goal.invariant-loop-position
invariant-loop-position g l = record {
  made : MadeCalls (map (call_at l.at) (take (length l.yielded) l.fn.self.calls.items)) l.fn.self.pass l.self.pass;
  begins : IsPrefix l.fn.self.pass.log l.self.pass.log;
  refused : l.self.refused ≡ None;
}
