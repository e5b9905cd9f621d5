-- Planned: what a history has of the planned actions, and whether a board refuses one.
use Rattle.std.specs.Prelude.{ℕ, Bool, nat_le, is_some, List, [], ◌∷◌, ◌++◌, Option, Some, None, if◌then◌else◌}
use Rattle.std.specs.List.{filter_map}
use Rattle.am_model.specs.declared.config.Config.{Config}
use Rattle.am_model.specs.declared.record.Call.{Call}
use Rattle.am_model.specs.declared.record.Call.TheVariants as call
use Rattle.am_model.specs.declared.record.Record.{Record}
use Rattle.am_model.specs.Records.{call_of_silence}
use Rattle.am_model.specs.Causes.{insert_cause, load_cause, silence_cause}
use Rattle.am_model.specs.State.{time}
use Rattle.am_board.specs.History.{BoardData, records_at, state_at}
use Rattle.am_terms.specs.declared.rehearsal.Action.{Action}
use Rattle.am_terms.specs.declared.rehearsal.Action.TheVariants.{Insert, Silence, Load}
use Rattle.am_terms.specs.declared.rehearsal.TimedAction.{TimedAction}

-- a call, if it is one that is planned: an insert, a silence or a load
abbrev pub input_of : Call → Option Call
input_of (call.Insert now alert) = Some (call.Insert now alert)
input_of (call.Silence now id matchers start end) = Some (call.Silence now id matchers start end)
input_of (call.Begin now) = None
input_of (call.Finish now number outcomes) = None
input_of (call.Maintain now) = None
input_of (call.RemoveEmptyGroups now) = None
input_of (call.Forget now) = None
input_of (call.Load now row) = Some (call.Load now row)
input_of (call.Note now number integration outcome) = None

-- inputs_in: the inserts, the silences and the loads of a history, in their order
abbrev pub inputs_in : List Record → List Call
inputs_in history = filter_map (λ r. input_of r.call) history

-- the call that something planned is: an insert of the alert, the silence, or a load of the row, at its time
abbrev pub call_of : ℕ → Action → Call
call_of at (Insert alert) = call.Insert at alert
call_of at (Silence silence) = call_of_silence at silence
call_of at (Load row) = call.Load at row

-- whether a board refuses something planned at a time: at a limit, or a log row that doesn't fit
abbrev pub refuses : BoardData → ℕ → Action → Bool
refuses b at (Insert alert) = is_some (insert_cause b.config (records_at b) (state_at b) alert)
refuses b at (Silence silence) = is_some (silence_cause b.config (records_at b) (state_at b) silence)
refuses b at (Load row) = is_some (load_cause b.config (records_at b) (state_at b) (time (state_at b) at) row)

-- planned: the calls of plans, up to the first plan that is after the end
abbrev pub planned : ℕ → List TimedAction → List Call
planned until [] = []
planned until (p ∷ ps) = if nat_le p.at until then call_of p.at p.act ∷ planned until ps else []

-- what a board has of what is planned: its configuration, and its inserts, silences and loads
pub record InputTrace : Type 0 where
  pub config : Config
  pub acts : List Call

-- the inputs of a board
unfoldable pub input_trace : BoardData → InputTrace
input_trace board = record { config = board.config; acts = inputs_in board.history }

-- a configuration, and nothing done
abbrev pub no_inputs : Config → InputTrace
no_inputs config = record { config = config; acts = [] }

-- inputs, and then calls
abbrev pub with_inputs : InputTrace → List Call → InputTrace
with_inputs done calls = record { config = done.config; acts = done.acts ++ calls }
