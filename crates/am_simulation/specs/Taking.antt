-- Taking: what a begin of the board came to, as its caller sees it.
use Rattle.std.specs.Prelude.{◌≡◌, ℕ, Bool, true, false, List, [], ◌∷◌, ◌++◌, length, Option, Some, None}
use Rattle.am_model.specs.declared.fault.Fault.{Fault}
use Rattle.am_model.specs.declared.group.GroupName.{GroupName}
use Rattle.am_model.specs.declared.preview.Preview.{Preview}
use Rattle.am_model.specs.declared.record.Call.TheVariants as call
use Rattle.am_model.specs.declared.record.Reply.{Reply}
use Rattle.am_model.specs.declared.record.Reply.TheVariants as reply
use Rattle.am_model.specs.Begin.{begun}
use Rattle.am_model.specs.Causes.{begin_cause}
use Rattle.am_model.specs.Records.{entry, flush_reply}
use Rattle.am_model.specs.State.{time}
use Rattle.am_board.specs.History.{BoardData, records_at, state_at, with_record}
use Rattle.am_board.specs.declared.begin.Begun.{Begun as Answer}
use Rattle.am_board.specs.declared.begin.Begun.TheVariants as answer
use Rattle.am_simulation.specs.EventOrder.{begin_indices}
use Rattle.am_simulation.specs.Previews.{takes_group}
use Rattle.am_terms.specs.declared.event.Event.{Event}
use Rattle.am_terms.specs.declared.event.Event.TheVariants.{Begun}
use Rattle.am_simulation.specs.declared.taken.Taken.{Taken}
use Rattle.am_simulation.specs.declared.taken.Taken.TheVariants.{Nothing, Quiet, Flush}

-- the event of a begin at a position among those that took a group, if it did
abbrev pub begun_events : Bool → ℕ → List Event
begun_events false begin = []
begun_events true begin = Begun begin ∷ []

-- the same, where this is the preview of the begin
abbrev pub begun_where : Option Preview → Bool → ℕ → List Event
begun_where None takes begin = []
begun_where (Some preview) true begin = Begun begin ∷ []
begun_where (Some preview) false begin = []

-- why a begin at a time is refused
abbrev pub cause_of_none : BoardData → ℕ → Option Fault
cause_of_none b at = let s = state_at b in begin_cause b.config (records_at b) s (time s at)

-- a begin at a time led from a board and events to others, by this reply
pub record IsBeginBy (old : BoardData) (events : List Event) (at : ℕ) (new : BoardData) (events_since : List Event)
    (returned : Reply) : Type 0 where
  pub allowed : cause_of_none old at ≡ None
  pub replied : begun old.config old.id (state_at old) (time (state_at old) at) ≡ returned
  pub board : new ≡ with_record old (entry 0 (call.Begin at) returned)
  pub events_are : events_since ≡ events ++ begun_events (takes_group returned) (length (begin_indices events))

-- a begin at a time led from a board and events to others, and came to this
abbrev pub IsTaken : BoardData → List Event → ℕ → BoardData → List Event → Taken → Type 0
IsTaken old events at new events_since Nothing = IsBeginBy old events at new events_since reply.NothingDue
IsTaken old events at new events_since Quiet =
    (group : GroupName) × (removed : ℕ) × IsBeginBy old events at new events_since (reply.Quiet group removed)
IsTaken old events at new events_since (Flush t) =
    (t.board_id ≡ old.id) × (t.outcomes ≡ [])
    × IsBeginBy old events at new events_since (flush_reply t.number t.group t.deadline t.notices)

-- what a begin came to is what the board answered
abbrev pub IsOwn : Answer → Taken → Type 0
IsOwn answer.NothingDue taken = taken ≡ Nothing
IsOwn (answer.Quiet group removed) taken = taken ≡ Quiet
IsOwn (answer.Flush ticket) taken = taken ≡ Flush ticket
