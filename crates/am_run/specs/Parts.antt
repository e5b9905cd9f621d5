-- The history of a played scenario, part by part: one for each phase.
use Rattle.std.specs.Prelude.{◌≡◌, ℕ, ◌+◌, true, All, List, [], ◌∷◌, ◌++◌, map}
use Rattle.std.specs.List.{flat_map}
use Rattle.am_model.specs.declared.record.Record.{Record}
use Rattle.am_desk.specs.History.{own}
use Rattle.am_desk.specs.declared.word.Terms.{Terms}
use Rattle.am_run.specs.Lanes.{calls_by, phase_calls}
use Rattle.am_run.specs.Turns.{BeginsExhausted, MainSteps, records_in}
use Rattle.am_scenario.specs.declared.scenario.Phase.{Phase}

-- what a history has of a phase: the main thread's turn, and the other records
pub record PhaseRecords : Type 0 where
  pub turn : MainSteps
  pub concurrent : List Record

-- all records of a part, in their order: the other records are between its begins and its notes
abbrev pub all_in : PhaseRecords → List Record
all_in part = part.turn.begins ++ part.concurrent ++ part.turn.notes ++ part.turn.finishes

-- the part of a phase, after these records of a history: the turn's records are the main thread's, which has no others, and its
-- begins went on until no group was due or the limit of open flushes was reached; of the others each lane made just its calls, at the
-- phase's time and in their order, and nobody else made any. The order between the calls of two lanes is open
pub record AreRecordsOfPhase (t : Terms) (before : List Record) (phase : Phase) (part : PhaseRecords) : Type 0 where
  pub main : All (λ r. r.pass ≡ 0) (records_in part.turn)
  pub ended : phase.flush ≡ true → BeginsExhausted t phase.at (before ++ part.turn.begins) part.turn.begins
  pub others : own 0 part.concurrent ≡ []
  pub lanes : (i : ℕ) → calls_by (i + 1) part.concurrent ≡ phase_calls i phase

-- these are parts of these phases, one after the other, after these records of a history
abbrev pub ArePartsFrom : Terms → List Record → List Phase → List PhaseRecords → Type 0
ArePartsFrom t before [] [] = Unit {0}
ArePartsFrom t before [] (part ∷ parts) = ⊥
ArePartsFrom t before (phase ∷ phases) [] = ⊥
ArePartsFrom t before (phase ∷ phases) (part ∷ parts) =
    AreRecordsOfPhase t before phase part × ArePartsFrom t (before ++ all_in part) phases parts

-- this history is made of one part for each phase, in their order, each with the turn of the phase
pub record SplitsByPhase (t : Terms) (phases : List Phase) (turns : List MainSteps) (history : List Record) : Type 0 where
  pub parts : List PhaseRecords
  pub turned : map (λ p. p.turn) parts ≡ turns
  pub each : ArePartsFrom t [] phases parts
  pub made : history ≡ flat_map all_in parts
