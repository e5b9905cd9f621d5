-- What the lanes of a scenario do.
use Rattle.std.specs.Prelude.{ℕ, List, [], map, slice_get, Option, Some, None}
use Rattle.std.specs.List.{flat_map}
use Rattle.am_model.specs.Records.{call_of_silence}
use Rattle.am_model.specs.declared.record.Call.{Call}
use Rattle.am_model.specs.declared.record.Call.TheVariants as call
use Rattle.am_model.specs.declared.record.Record.{Record}
use Rattle.am_desk.specs.History.{own}
use Rattle.am_scenario.specs.declared.scenario.Lane.{Lane}
use Rattle.am_scenario.specs.declared.scenario.Phase.{Phase}
use Rattle.am_scenario.specs.declared.scenario.call.LaneCall.{LaneCall}
use Rattle.am_scenario.specs.declared.scenario.call.LaneCall.TheVariants as lane

-- the board's call that a lane makes at a time
abbrev pub call_at : ℕ → LaneCall → Call
call_at at (lane.Insert alert) = call.Insert at alert
call_at at (lane.Silence silence) = call_of_silence at silence
call_at at lane.Maintain = call.Maintain at

-- the calls of a lane at a time, in their order; none where there is no such lane
abbrev pub calls_at : ℕ → Option Lane → List Call
calls_at at None = []
calls_at at (Some lane) = map (call_at at) lane.calls.items

-- the calls of lane i of a phase, at the phase's time
abbrev pub phase_calls : ℕ → Phase → List Call
phase_calls i phase = calls_at phase.at (slice_get phase.lanes.items i)

-- the calls of lane i, phase after phase
abbrev pub lane_calls : ℕ → List Phase → List Call
lane_calls i phases = flat_map (phase_calls i) phases

-- the calls in a history that a pass made, in their order
abbrev pub calls_by : ℕ → List Record → List Call
calls_by pass history = map (λ r. r.call) (own pass history)
