-- What the main thread's pass has seen of the passes of the lanes.
use Rattle.std.specs.Prelude.{◌≡◌, ◌<◌, ℕ, true, All, List, [], ◌++◌, length}
use Rattle.std.specs.List.{AllZip}
use mathlib.Core.List.{IsPrefix}
use Rattle.am_model.specs.declared.notice.Report.{Report}
use Rattle.am_model.specs.declared.record.Record.{Record}
use Rattle.am_desk.specs.Desks.{AreFresh}
use Rattle.am_desk.specs.History.{own}
use Rattle.am_desk.specs.Known.{Seen, seen}
use Rattle.am_desk.specs.declared.word.Terms.{Terms}
use Rattle.am_pool.specs.declared.courier.Tried.{Tried}
use Rattle.am_run.specs.Parts.{SplitsByPhase}
use Rattle.am_run.specs.Steps.{AfterMainSteps, MadeRecords, RunsMainSteps}
use Rattle.am_run.specs.Turns.{BeginsExhausted}
use Rattle.am_scenario.specs.declared.scenario.Phase.{Phase}

-- one pass met another (it was p and is q, the other was l and is m): neither made a call, and each has seen what the other had seen
abbrev pub Meets : Seen → Seen → Seen → Seen → Type 0
Meets p q l m = MadeRecords [] l m × IsPrefix p.log m.log × IsPrefix l.log q.log

-- one pass met all of these
pub record MeetsAll (p q : Seen) (ls ms : List Seen) : Type 0 where
  pub quiet : MadeRecords [] p q
  pub each : AllZip (Meets p q) ls ms

-- a pass made its calls between two lists: the first has no record of it that it hadn't made before, the second has all that it made
pub record CalledBetween (before since : List Record) (l m : Seen) : Type 0 where
  pub number : m.number ≡ l.number
  pub starts : IsPrefix (own l.number before) (own l.number l.log)
  pub ends : IsPrefix (own m.number m.log) (own m.number since)

-- these passes made their calls while another made none, after all that it had seen, and it has seen them all
pub record RanConcurrently (p q : Seen) (ls ms : List Seen) : Type 0 where
  pub quiet : MadeRecords [] p q
  pub each : AllZip (CalledBetween p.log q.log) ls ms

-- the same, and then the other went on
pub record RanBefore (p q : Seen) (ls ms : List Seen) : Type 0 where
  pub joined : Seen
  pub ran : RanConcurrently p joined ls ms
  pub begins : IsPrefix joined.log q.log

-- the main thread had its turn in a phase; its begins went on until no group was due or the limit of open flushes was reached, and the
-- passes of the lanes made their calls after that and before its notes
pub record RunsPhase (Answers : Tried → Type 0) (t : Terms) (phase : Phase) (p q : Seen) (ls ms : List Seen)
    (reports reports_since : List Report) : Type 0 where
  pub took : RunsMainSteps Answers t phase p q reports reports_since
  pub begun : Seen
  pub joined : Seen
  pub begins : MadeRecords took.turn.begins p begun
  pub ended : phase.flush ≡ true → BeginsExhausted t phase.at begun.log took.turn.begins
  pub concurrent : RanConcurrently begun joined ls ms
  pub ends : MadeRecords (took.turn.notes ++ took.turn.finishes) joined q

-- a list has no record of these passes that they didn't make, and none of a pass that isn't there
pub record HasNoOtherCalls (ls : List Seen) (rs : List Record) : Type 0 where
  pub each : All (λ l. IsPrefix (own l.number rs) (own l.number l.log)) ls
  pub others : (k : ℕ) → length ls < k → own k rs ≡ []

-- between two phases the main thread's pass had its turns and has seen all calls of the lanes; if it has seen no others, what it has
-- seen is made of a part for each phase so far. That there are no others is known when it meets the lanes again, or when the desk is closed
pub record AfterPhases (Answers : Tried → Type 0) (t : Terms) (phases : List Phase) (p : Seen) (ls : List Seen)
    (reports : List Report) : Type 0 where
  pub main : AfterMainSteps Answers t phases p reports
  pub sees : All (λ l. IsPrefix (own l.number l.log) (own l.number p.log)) ls
  pub parts : HasNoOtherCalls ls p.log → SplitsByPhase t phases main.1.turns p.log

-- the main thread's pass has had no turn, the passes of the lanes have made no calls, and there is no report
abbrev pub BeforePhases : Seen → List Seen → List Report → Type 0
BeforePhases p ls reports = (p ≡ seen 0 0 []) × AreFresh 1 ls × (reports ≡ [])
