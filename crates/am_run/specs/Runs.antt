-- A run, by its lanes.
use Rattle.std.specs.Prelude.{◌≡◌, ◌<◌, ℕ, All, List, [], ◌++◌, length}
use mathlib.Core.List.{IsPrefix}
use Rattle.am_model.specs.Replay.{IsLegal}
use Rattle.am_model.specs.declared.notice.Report.{Report}
use Rattle.am_model.specs.declared.record.Record.{Record}
use Rattle.am_desk.specs.Desks.{IsPrefixViewOf}
use Rattle.am_desk.specs.History.{made}
use Rattle.am_desk.specs.Known.{Seen}
use Rattle.am_desk.specs.declared.name.Name.{Ghosts}
use Rattle.am_desk.specs.declared.word.Terms.{Terms}
use Rattle.am_pool.specs.declared.courier.Tried.{Tried}
use Rattle.am_run.specs.Interleaving.{AfterPhases, BeforePhases}
use Rattle.am_run.specs.LaneStates.{HaveMade, NoneRefused, passes_in, MadeLanes}
use Rattle.am_run.specs.PhaseFaults.{EndsAsFull, HasNoFault}
use Rattle.am_run.specs.declared.phase.Run.{Run}
use Rattle.am_run.specs.Report.{report_text}
use Rattle.am_scenario.specs.declared.scenario.Lane.{Lane}
use Rattle.am_scenario.specs.declared.scenario.Phase.{Phase}

-- the passes of its lanes
abbrev pub lanes_of : {N : Type 0} {names : Ghosts N} → Run N names → List Seen
lanes_of run = passes_in run.lane_states.items

-- the lanes and the reports are as they were, and what went wrong stays so
abbrev pub Preserves : {N : Type 0} {names : Ghosts N} → Run N names → Run N names → Type 0
Preserves was is = (is.lane_states ≡ was.lane_states) × (is.reports ≡ was.reports) × (HasNoFault is.faults → HasNoFault was.faults)

-- the main thread's pass and the reports are as they were
abbrev pub Rests : {N : Type 0} {names : Ghosts N} → Run N names → Run N names → Type 0
Rests was is = (is.main ≡ was.main) × (is.reports ≡ was.reports)

-- the main thread's pass went on from what it had seen, and no call was refused by a limit
abbrev pub Continues : {N : Type 0} {names : Ghosts N} → Run N names → Run N names → Type 0
Continues was is = IsPrefix was.main.log is.main.log × (EndsAsFull is.faults → EndsAsFull was.faults)

-- nothing has gone wrong in it
abbrev pub IsWell : {N : Type 0} {names : Ghosts N} → Run N names → Type 0
IsWell run = HasNoFault run.faults × NoneRefused run.lane_states.items

-- these reports came to the others, but where something went wrong, and nothing else changed
pub record Gathers {N : Type 0} {names : Ghosts N} (reports : List Report) (was is : Run N names) : Type 0 where
  pub lane_states : is.lane_states ≡ was.lane_states
  pub main : is.main ≡ was.main
  pub more : HasNoFault is.faults → HasNoFault was.faults × (is.reports.items ≡ was.reports.items ++ reports)
  pub full : EndsAsFull is.faults → EndsAsFull was.faults

-- the lanes have made their calls at this time, but where something went wrong
abbrev pub RunsLanes : {N : Type 0} {names : Ghosts N} → ℕ → List Lane → Run N names → Run N names → Type 0
RunsLanes at lanes was is = HasNoFault is.faults → HasNoFault was.faults × MadeLanes at lanes (lanes_of was) (lanes_of is)

-- if nothing had gone wrong in it, and a limit refused a call since, the main thread's pass and the lanes' have stopped so
abbrev pub StopsLanes : {N : Type 0} {names : Ghosts N} → (Seen → Seen → List Seen → List Seen → Type 0)
    → Run N names → Run N names → Type 0
StopsLanes Stop was is = IsWell was → EndsAsFull is.faults → Stop was.main is.main (lanes_of was) (lanes_of is)

-- it has run no phase
abbrev pub IsFresh : {N : Type 0} {names : Ghosts N} → Run N names → Type 0
IsFresh run = HaveMade 0 [] (lanes_of run) × BeforePhases run.main (lanes_of run) run.reports.items × IsWell run

-- it has run these phases: the lanes have made their calls of them, and the main thread had its turns
abbrev pub HasRun : {N : Type 0} {names : Ghosts N} → (Tried → Type 0) → Terms → List Phase → Run N names → Type 0
HasRun Answers t phases run = HaveMade 0 phases (lanes_of run) × AfterPhases Answers t phases run.main (lanes_of run) run.reports.items

-- the text is the report on a legal history of a board of these terms: it begins with what these passes have seen, the main thread's and
-- the lanes', and has no other calls of theirs and none of a pass that isn't there
pub record IsReportOnPasses (t : Terms) (p : Seen) (ls : List Seen) (reports : List Report) (text : List ℕ) : Type 0 where
  pub history : List Record
  pub legal : IsLegal t.config t.id history
  pub is : text ≡ report_text t.config reports history
  pub main : IsPrefixViewOf p history
  pub lanes : All (λ l. IsPrefixViewOf l history) ls
  pub others : (k : ℕ) → length ls < k → made k history ≡ 0

-- the text is the report on what a run did
abbrev pub IsReportOnRun : {N : Type 0} {names : Ghosts N} → Terms → Run N names → List ℕ → Type 0
IsReportOnRun t run text = IsReportOnPasses t run.main (lanes_of run) run.reports.items text
