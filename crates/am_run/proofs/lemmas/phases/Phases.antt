-- The phases of a run, and its end.
use Rattle.std.proofs.Common.{◌≡◌, ℕ, ◌+◌, ◌<◌, All, subst, List, [], ◌∷◌, ◌++◌, length, get_or, take, slice_get, vec_len, sym, ap, ◌∙◌, arith}
use Rattle.std.proofs.lemmas.List.{take_more}
use Rattle.am_model.specs.declared.notice.Report.{Report}
use Rattle.am_model.specs.declared.record.Record.{Record}
use Rattle.am_desk.specs.Desks.{IsPrefixViewOf}
use Rattle.am_desk.specs.History.{made}
use Rattle.am_desk.specs.Known.{Seen}
use Rattle.am_desk.specs.Terms.{terms}
use Rattle.am_run.specs.Interleaving.{AfterPhases}
use Rattle.am_run.specs.Lanes.{calls_by, lane_calls}
use Rattle.am_run.specs.LaneStates.{HaveMade, MadeLanes}
use Rattle.am_run.specs.Parts.{SplitsByPhase}
use Rattle.am_run.specs.Plays.{IsPlayOf}
use Rattle.am_run.specs.Runs.{IsReportOnPasses}
use Rattle.am_run.specs.Turns.{MainSteps}
use Rattle.am_scenario.specs.Scripts.{IsAsPlanned}
use Rattle.am_scenario.specs.declared.scenario.Phase.{Phase}
use Rattle.am_scenario.specs.declared.scenario.Scenario.{Scenario}
use Rattle.am_run.proofs.lemmas.lanes.Calls.{lanes_prefixed, phase_made}
use Rattle.am_run.proofs.lemmas.phases.Parts.{parts_prefixed}
use Rattle.am_run.proofs.lemmas.phases.Turns.{turns_prefixed, turns_stay}

-- one turn more over the phases, of which the passes made the calls
pub turn_made : (phases : List Phase) (n m : ℕ) (phase : Phase) (ps qs : List Seen) → m ≡ n + 1 → n < length phases → phase ≡ get_or phases n phase
    → HaveMade 0 (take n phases) ps → MadeLanes phase.at phase.lanes.items ps qs → HaveMade 0 (take m phases) qs
turn_made phases n m phase ps qs next there is have since =
    let longer : take m phases ≡ take n phases ++ phase ∷ [] =
    ap (λ (k : ℕ). take k phases) next ∙ (take_more phases n phase there ∙ ap (λ (p : Phase). take n phases ++ p ∷ []) (sym is))
    in
    subst (λ (xs : List Phase). HaveMade 0 xs qs) (sym longer)
    (phase_made 0 (take n phases) phase phase.lanes.items ps qs (λ k. ap (slice_get phase.lanes.items) (omega arith)) have since)

-- what a run is known by when its desk is closed
pub record Ended (phases : List Phase) (ps : List Seen) (history : List Record) (passes : ℕ) : Type 0 where
  pub have : HaveMade 0 phases ps
  pub prefixed : All (λ (p : Seen). IsPrefixViewOf p history) ps
  pub others : (k : ℕ) → length ps < k → made k history ≡ 0
  pub few : All (λ (p : Phase). vec_len p.lanes < passes) phases
  pub seated : length ps + 1 ≡ passes

-- its history has just the calls of each lane
pub all_played : (phases : List Phase) (ps : List Seen) (history : List Record) (passes : ℕ) → Ended phases ps history passes
    → (i : ℕ) → calls_by (i + 1) history ≡ lane_calls i phases
all_played phases ps history passes e i =
    lanes_prefixed 0 i phases ps history e.have e.prefixed (λ k more. e.others k (omega (arith, more)))
    (λ k d lt. omega (arith, e.few k d lt, e.seated, (get_or phases k d).lanes.ok.0)) (omega arith)

-- the report on the passes that have run the phases of a scenario is its play
pub played : (scenario : Scenario) (id passes : ℕ) (p : Seen) (ls : List Seen) (reports : List Report) (text : List ℕ) → HaveMade 0 scenario.phases.items ls
    → AfterPhases (IsAsPlanned scenario.scripts.items) (terms scenario.config id) scenario.phases.items p ls reports → IsReportOnPasses (terms scenario.config id) p ls reports text
    → All (λ (x : Phase). vec_len x.lanes < passes) scenario.phases.items → length ls + 1 ≡ passes → IsPlayOf id scenario text
played scenario id passes p ls reports text have had reported few seated =
    let answers = IsAsPlanned scenario.scripts.items in
    let t = terms scenario.config id in
    let phases = scenario.phases.items in
    record {
      history = reported.history;
      report = record { reports = reports; legal = reported.legal; is = reported.is };
      lanes = all_played phases ls reported.history passes (record { have = have; prefixed = reported.lanes; others = reported.others; few = few; seated = seated });
      main = turns_prefixed answers t phases p reports reported.history had.main reported.main;
      parts =
          subst (λ (us : List MainSteps). SplitsByPhase t phases us reported.history) (sym (turns_stay answers t phases p reports reported.history had.main reported.main))
          (parts_prefixed answers t phases p ls reports reported.history have had reported.main reported.lanes reported.others);
    }

-- what is known of the source of a walk is known of it as the walk has it
pub of_source : {E I X : Type 0} (source : E → I) (all e : E) (i : I) (f : I → X) (x : X) → all ≡ e → source e ≡ i → f i ≡ x → f (source all) ≡ x
of_source {E} source all e i f x gives from is = ap (λ (s : E). f (source s)) gives ∙ (ap f from ∙ is)
