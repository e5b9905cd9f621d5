-- Where a run stops: what the passes have seen when a limit refused a call.
use Rattle.std.specs.Prelude.{◌≡◌, ◌≢◌, ◌⊎◌, ◌<◌, ℕ, ◌+◌, true, All, List, [], ◌∷◌, ◌++◌, length, slice_get, Some, None}
use mathlib.Core.List.{IsPrefix}
use Rattle.am_model.specs.Replay.{IsLegal}
use Rattle.am_model.specs.declared.fault.Fault.TheVariants.{HistoryFull}
use Rattle.am_model.specs.declared.notice.Report.{Report}
use Rattle.am_model.specs.declared.record.Call.{Call}
use Rattle.am_model.specs.declared.record.Call.TheVariants as call
use Rattle.am_model.specs.declared.record.Record.{Record}
use Rattle.am_desk.specs.Calls.{cause_of_begin}
use Rattle.am_desk.specs.Desks.{IsPrefixViewOf}
use Rattle.am_desk.specs.History.{made}
use Rattle.am_desk.specs.Known.{Seen}
use Rattle.am_desk.specs.declared.word.Terms.{Terms}
use Rattle.am_pool.specs.declared.courier.Tried.{Tried}
use Rattle.am_run.specs.Interleaving.{AfterPhases, RanConcurrently}
use Rattle.am_run.specs.Lanes.{call_at, calls_at}
use Rattle.am_run.specs.LaneStates.{HaveMade, MadeCalls}
use Rattle.am_run.specs.Steps.{MadeRecords}
use Rattle.am_run.specs.Turns.{BeginsExhausted, FoundDue}
use Rattle.am_run.specs.IsCauseOfFull.{cause_of_call}
use Rattle.am_scenario.specs.declared.scenario.Lane.{Lane}
use Rattle.am_scenario.specs.declared.scenario.Phase.{Phase}
use Rattle.am_scenario.specs.declared.scenario.call.LaneCall.{LaneCall}

-- the pass made begins that all found a group due, and then has seen a history that has no capacity for the next
pub record BeginsUntilFull (t : Terms) (at : ℕ) (p q : Seen) : Type 0 where
  pub begins : List Record
  pub made : MadeRecords begins p q
  pub begun : All (λ r. r.call ≡ call.Begin at) begins
  pub found : All FoundDue begins
  pub full : cause_of_begin t at q.log ≡ Some HistoryFull

-- a pass has made the first of these calls since, and no others
abbrev pub MadeFirstOf : List Call → Seen → Seen → Type 0
MadeFirstOf calls p q = (done : List Call) × IsPrefix done calls × MadeCalls done p q

-- the passes of the lanes from lane i on: each has made the first calls of its lane since, at this time, and no others
abbrev pub MadeFirst : ℕ → List Lane → ℕ → List Seen → List Seen → Type 0
MadeFirst at lanes i [] [] = Unit {0}
MadeFirst at lanes i [] (q ∷ qs) = ⊥
MadeFirst at lanes i (p ∷ ps) [] = ⊥
MadeFirst at lanes i (p ∷ ps) (q ∷ qs) = MadeFirstOf (calls_at at (slice_get lanes i)) p q × MadeFirst at lanes (i + 1) ps qs

-- the pass of a lane made some of these calls since, and then had seen a legal history at which a limit refuses the next; another pass
-- had seen less than that before, and has seen it since
pub record StopsOf (t : Terms) (at : ℕ) (calls : List Call) (before since : List Record) (l : Seen) : Type 0 where
  pub done : List Call
  pub call : LaneCall
  pub next : IsPrefix (done ++ call_at at call ∷ []) calls
  pub then : Seen
  pub made : MadeCalls done l then
  pub begins : IsPrefix before then.log
  pub ends : IsPrefix then.log since
  pub legal : IsLegal t.config t.id then.log
  pub refused : cause_of_call t call then.log ≢ None

-- so did one of the passes of the lanes from lane i on
abbrev pub AnyStops : Terms → ℕ → List Lane → List Record → List Record → ℕ → List Seen → Type 0
AnyStops t at lanes before since i [] = ⊥
AnyStops t at lanes before since i (l ∷ ls) =
    StopsOf t at (calls_at at (slice_get lanes i)) before since l ⊎ AnyStops t at lanes before since (i + 1) ls

-- the passes of the lanes made the first calls of their lanes, while another made none, and a limit refused the next call of one
pub record LanesStop (t : Terms) (at : ℕ) (lanes : List Lane) (p q : Seen) (ls ms : List Seen) : Type 0 where
  pub ran : RanConcurrently p q ls ms
  pub made : MadeFirst at lanes 0 ls ms
  pub stops : AnyStops t at lanes p.log q.log 0 ls

-- the same, and then the other went on
pub record LanesStopBefore (t : Terms) (at : ℕ) (lanes : List Lane) (p q : Seen) (ls ms : List Seen) : Type 0 where
  pub joined : Seen
  pub stop : LanesStop t at lanes p joined ls ms
  pub begins : IsPrefix joined.log q.log

-- a phase stopped at its begins, before its lanes were run
pub record StopsAtBegin (t : Terms) (phase : Phase) (p q : Seen) (ls ms : List Seen) : Type 0 where
  pub requested : phase.flush ≡ true
  pub begun : Seen
  pub until : BeginsUntilFull t phase.at p begun
  pub since : IsPrefix begun.log q.log
  pub same : ms ≡ ls

-- a phase stopped at a call of its lanes, after its begins
pub record StopsAtCall (t : Terms) (phase : Phase) (p q : Seen) (ls ms : List Seen) : Type 0 where
  pub begun : Seen
  pub begins : List Record
  pub made : MadeRecords begins p begun
  pub requested : All (λ r. (phase.flush ≡ true) × (r.call ≡ call.Begin phase.at)) begins
  pub ended : phase.flush ≡ true → BeginsExhausted t phase.at begun.log begins
  pub stop : LanesStopBefore t phase.at phase.lanes.items begun q ls ms

-- a phase was stopped by a limit
abbrev pub PhaseStops : Terms → Phase → Seen → Seen → List Seen → List Seen → Type 0
PhaseStops t phase p q ls ms = StopsAtBegin t phase p q ls ms ⊎ StopsAtCall t phase p q ls ms

-- the passes had run the phases before one, which was stopped by a limit
pub record PassesStop (Answers : Tried → Type 0) (t : Terms) (phases : List Phase) (q : Seen) (ms : List Seen) : Type 0 where
  pub before : List Phase
  pub phase : Phase
  pub after : List Phase
  pub is : phases ≡ before ++ phase ∷ after
  pub p : Seen
  pub ls : List Seen
  pub reports : List Report
  pub have : HaveMade 0 before ls
  pub had : AfterPhases Answers t before p ls reports
  pub stops : PhaseStops t phase p q ls ms

-- a legal history begins with what these passes have seen, the main thread's and the lanes', and has no other calls of theirs and none
-- of a pass that isn't there
pub record EndsWith (t : Terms) (q : Seen) (ms : List Seen) (history : List Record) : Type 0 where
  pub legal : IsLegal t.config t.id history
  pub main : IsPrefixViewOf q history
  pub lanes : All (λ m. IsPrefixViewOf m history) ms
  pub others : (k : ℕ) → length ms < k → made k history ≡ 0
