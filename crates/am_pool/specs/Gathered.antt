-- Gathered: workers that are done, and how their reports get into the order of the jobs.
use Rattle.std.specs.List.{AllByRecursion}
use Rattle.std.specs.Prelude.{◌≡◌, ◌<◌, ◌+◌, ℕ, List, [], ◌∷◌, ◌++◌, ⊤, All, Some, length, slice_get, slice_set}
use Rattle.am_model.specs.declared.notice.Report.{Report}
use Rattle.am_pool.specs.declared.courier.Tried.{Tried}
use Rattle.crossbeam_queue.specs.Passes.{view}
use Rattle.am_pool.specs.Dealt.{weigh, numbers}
use Rattle.am_pool.specs.Work.{Run, RanAll, DidWork, numbers_of}
use Rattle.am_pool.specs.declared.worker.Job.{Job}
use Rattle.am_pool.specs.declared.worker.Worker.{Worker}

-- each worker worked with the courier at its index
abbrev pub AllWorked : {E : Type 0} → List Job → (E → List Tried) → (E → ℕ) → List Worker → List Worker → List E → List E → Type 0
AllWorked jobs tries refusals [] [] [] [] = ⊤
AllWorked jobs tries refusals (s ∷ ss) (t ∷ ts) (c ∷ cs) (d ∷ ds) =
    DidWork jobs s t (tries c) (refusals c) (tries d) (refusals d) × AllWorked jobs tries refusals ss ts cs ds
AllWorked jobs tries refusals [] (t ∷ ts) cs ds = ⊥
AllWorked jobs tries refusals [] [] (c ∷ cs) ds = ⊥
AllWorked jobs tries refusals [] [] [] (d ∷ ds) = ⊥
AllWorked jobs tries refusals (s ∷ ss) [] cs ds = ⊥
AllWorked jobs tries refusals (s ∷ ss) (t ∷ ts) [] ds = ⊥
AllWorked jobs tries refusals (s ∷ ss) (t ∷ ts) (c ∷ cs) [] = ⊥

-- a worker worked with the first courier, and the others did nothing
abbrev pub FirstWorked : {E : Type 0} → List Job → (E → List Tried) → (E → ℕ) → Worker → Worker → List E → List E → Type 0
FirstWorked jobs tries refusals s t (c ∷ cs) (d ∷ ds) =
    DidWork jobs s t (tries c) (refusals c) (tries d) (refusals d) × (ds ≡ cs)
FirstWorked jobs tries refusals s t [] ds = ⊥
FirstWorked jobs tries refusals s t (c ∷ cs) [] = ⊥

-- the reports of runs, each put into its place
abbrev pub placed : List Report → List Run → List Report
placed reports [] = reports
placed reports (run ∷ runs) = placed (slice_set reports run.0 run.1) runs

-- each run is of a number below this one
abbrev pub AreBelow : ℕ → List Run → Type 0
AreBelow count runs = All (λ run. run.0 < count) runs

-- the runs of all workers, those of the last first
abbrev pub runs_back : List Worker → List Run
runs_back [] = []
runs_back (s ∷ ss) = runs_back ss ++ s.done.items

-- the parts of all workers
abbrev pub parts_of : List Worker → ℕ
parts_of [] = 0
parts_of (s ∷ ss) = (view s.pass).parts + parts_of ss

-- the weights of what all workers took, added up
abbrev pub weigh_taken : (ℕ → ℕ) → List Worker → ℕ
weigh_taken h [] = 0
weigh_taken h (s ∷ ss) = weigh h (view s.pass).taken + weigh_taken h ss

-- the runs of all couriers
abbrev pub all_runs : List (List Run) → List Run
all_runs [] = []
all_runs (r ∷ rs) = r ++ all_runs rs

-- the report in the place of a run's number is the run's
abbrev pub IsReportAt : List Report → Run → Type 0
IsReportAt reports run = slice_get reports run.0 ≡ Some run.1

-- each courier ran the jobs of the runs at its index, one after the other, and nothing else
abbrev pub AllRan : {E : Type 0} → List Job → (E → List Tried) → (E → ℕ) → List (List Run) → List E → List E → Type 0
AllRan jobs tries refusals [] [] [] = ⊤
AllRan jobs tries refusals (r ∷ rs) (c ∷ cs) (d ∷ ds) =
    RanAll jobs r (tries c) (refusals c) (tries d) (refusals d) × AllRan jobs tries refusals rs cs ds
AllRan jobs tries refusals [] (c ∷ cs) ds = ⊥
AllRan jobs tries refusals [] [] (d ∷ ds) = ⊥
AllRan jobs tries refusals (r ∷ rs) [] ds = ⊥
AllRan jobs tries refusals (r ∷ rs) (c ∷ cs) [] = ⊥

-- the runs of all couriers are those of the jobs, each once, and each report is in the place of its job
pub record Shared {E : Type 0} (jobs : List Job) (tries : E → List Tried) (refusals : E → ℕ)
    (reports : List Report) (old new : List E) : Type 0 where
  pub runs : List (List Run)
  pub ran : AllRan jobs tries refusals runs old new
  pub weighs : (h : ℕ → ℕ) → weigh h (numbers_of (all_runs runs)) ≡ weigh h (numbers 0 (length jobs))
  pub count : length reports ≡ length jobs
  pub reported_at : AllByRecursion (IsReportAt reports) (all_runs runs)
