-- IsCauseOfFull: why a scenario isn't played to its end: a limit leaves no capacity for the next call that it asks for.
use Rattle.std.specs.Prelude.{◌≡◌, ◌≢◌, ◌⊎◌, ℕ, ◌+◌, true, All, List, [], ◌∷◌, ◌++◌, Option, Some, None}
use mathlib.Core.List.{IsPrefix}
use Rattle.am_model.specs.Replay.{IsLegal}
use Rattle.am_model.specs.declared.fault.Fault.{Fault}
use Rattle.am_model.specs.declared.fault.Fault.TheVariants.{HistoryFull}
use Rattle.am_model.specs.declared.notice.Report.{Report}
use Rattle.am_model.specs.declared.record.Record.{Record}
use Rattle.am_desk.specs.Calls.{cause_of_begin, cause_of_insert, cause_of_maintain, cause_of_silence}
use Rattle.am_desk.specs.History.{own}
use Rattle.am_desk.specs.Terms.{terms}
use Rattle.am_desk.specs.declared.word.Terms.{Terms}
use Rattle.am_pool.specs.declared.courier.Tried.{Tried}
use Rattle.am_run.specs.Lanes.{call_at, calls_by, lane_calls, phase_calls}
use Rattle.am_run.specs.Parts.{SplitsByPhase}
use Rattle.am_run.specs.Turns.{AreAllMainStepsOf, BeginsExhausted, FoundDue, IsBeginOf}
use Rattle.am_scenario.specs.Scripts.{IsAsPlanned}
use Rattle.am_scenario.specs.declared.scenario.Phase.{Phase}
use Rattle.am_scenario.specs.declared.scenario.Scenario.{Scenario}
use Rattle.am_scenario.specs.declared.scenario.call.LaneCall.{LaneCall}
use Rattle.am_scenario.specs.declared.scenario.call.LaneCall.TheVariants as lane

-- why a desk refuses a call of a lane after a history, if it does; memory is no cause
abbrev pub cause_of_call : Terms → LaneCall → List Record → Option Fault
cause_of_call t (lane.Insert alert) h = cause_of_insert t alert h
cause_of_call t (lane.Silence silence) h = cause_of_silence t silence h
cause_of_call t lane.Maintain h = cause_of_maintain t h

-- these are begins of a phase, and the main thread's
abbrev pub AreBeginsOf : Phase → List Record → Type 0
AreBeginsOf phase begins = All (λ r. (r.pass ≡ 0) × IsBeginOf phase r) begins

-- a legal history is that of these phases, which ran to their end: what the lanes and the main thread called, part by part
pub record IsHistoryOf (Answers : Tried → Type 0) (t : Terms) (phases : List Phase) (history : List Record) : Type 0 where
  pub legal : IsLegal t.config t.id history
  pub lanes : (i : ℕ) → calls_by (i + 1) history ≡ lane_calls i phases
  pub reports : List Report
  pub main : AreAllMainStepsOf Answers t 0 history phases reports
  pub parts : SplitsByPhase t phases main.turns history

-- after this past came begins of a phase, which all found a group due, and then the history had no capacity for the next begin
pub record IsBeginRefused (t : Terms) (phase : Phase) (past : List Record) : Type 0 where
  pub requested : phase.flush ≡ true
  pub begins : List Record
  pub main : AreBeginsOf phase begins
  pub found : All FoundDue begins
  pub legal : IsLegal t.config t.id (past ++ begins)
  pub full : cause_of_begin t phase.at (past ++ begins) ≡ Some HistoryFull

-- after this past came all begins of a phase, then the first calls of each lane and nothing else, and then a limit left no capacity for
-- the next call of a lane
pub record IsCallRefused (t : Terms) (phase : Phase) (past : List Record) : Type 0 where
  pub begins : List Record
  pub main : AreBeginsOf phase begins
  pub ended : phase.flush ≡ true → BeginsExhausted t phase.at (past ++ begins) begins
  pub concurrent : List Record
  pub others : own 0 concurrent ≡ []
  pub lanes : (i : ℕ) → IsPrefix (calls_by (i + 1) concurrent) (phase_calls i phase)
  pub legal : IsLegal t.config t.id (past ++ begins ++ concurrent)
  pub lane : ℕ
  pub call : LaneCall
  pub next : IsPrefix (calls_by (lane + 1) concurrent ++ call_at phase.at call ∷ []) (phase_calls lane phase)
  pub refused : cause_of_call t call (past ++ begins ++ concurrent) ≢ None

-- the phases before one ran to their end on the board of this id, and then a begin of that phase or a call of its lanes was
-- refused by a limit
pub record IsStuck (id : ℕ) (scenario : Scenario) : Type 0 where
  pub before : List Phase
  pub phase : Phase
  pub after : List Phase
  pub phases : scenario.phases.items ≡ before ++ phase ∷ after
  pub past : List Record
  pub played : IsHistoryOf (IsAsPlanned scenario.scripts.items) (terms scenario.config id) before past
  pub stuck : IsBeginRefused (terms scenario.config id) phase past ⊎ IsCallRefused (terms scenario.config id) phase past
