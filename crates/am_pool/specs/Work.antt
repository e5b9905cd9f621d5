-- Work: what a worker and its courier did.
use Rattle.std.specs.Prelude.{◌≡◌, ◌<◌, ◌≤◌, ℕ, false, List, [], ◌∷◌, ◌++◌, length, map, Some, slice_get, vec_len, vec_capacity}
use Rattle.atomic_table.specs.Seated.{TableId}
use Rattle.am_alerts.specs.declared.limits.TheConstants.{MAX_TIME}
use Rattle.am_model.specs.declared.notice.Report.{Report}
use Rattle.am_model.specs.Notice.{is_nothing}
use Rattle.am_pool.specs.Delivery.{IsDelivery, IsReportOn}
use Rattle.am_pool.specs.declared.courier.Tried.{Tried}
use Rattle.crossbeam_queue.specs.Passes.{view}
use Rattle.am_pool.specs.Dealt.{hand, IsAll}
use Rattle.am_pool.specs.declared.worker.Job.{Job}
use Rattle.am_pool.specs.declared.worker.Worker.{Worker}

-- a job that can be sent: it has something to send, and starts at a time
abbrev pub IsReady : Job → Type 0
IsReady j = (is_nothing j.notice.now ≡ false) × (j.start ≤ MAX_TIME)

-- the number of a job that was run, and its report
abbrev pub Run : Type 0
Run = ℕ × Report

-- a courier ran the job of this number with this report, and so came from these tries and refusals to those
pub record Ran (jobs : List Job) (run : Run) (tries : List Tried) (refusals : ℕ)
    (tries_since : List Tried) (refusals_since : ℕ) : Type 0 where
  pub job : Job
  pub there : slice_get jobs run.0 ≡ Some job
  pub of_notice : IsReportOn job.notice.now run.1
  pub delivery : IsDelivery job.notice.now job.start tries refusals tries_since refusals_since run.1

-- a courier ran these jobs, one after the other, and nothing else
abbrev pub RanAll : List Job → List Run → List Tried → ℕ → List Tried → ℕ → Type 0
RanAll jobs [] tries refusals tries_since refusals_since = (tries_since ≡ tries) × (refusals_since ≡ refusals)
RanAll jobs (run ∷ runs) tries refusals tries_since refusals_since =
    (between : List Tried) × (refused : ℕ) × Ran jobs run tries refusals between refused
    × RanAll jobs runs between refused tries_since refusals_since

-- the job of this number was run, and its report is kept behind the others
abbrev pub OneMoreRan : List Job → ℕ → List Run → List Run → List Tried → ℕ → List Tried → ℕ → Type 0
OneMoreRan jobs k old new tries refusals tries_since refusals_since =
    (report : Report) × (new ≡ old ++ (k, report) ∷ [])
    × Ran jobs (k, report) tries refusals tries_since refusals_since

-- the numbers of the jobs that were run
abbrev pub numbers_of : List Run → List ℕ
numbers_of runs = map (λ run. run.0) runs

-- a worker took numbers until there were none, and its courier ran their jobs, in this order
pub record DidWork (jobs : List Job) (old new : Worker) (tries : List Tried) (refusals : ℕ)
    (tries_since : List Tried) (refusals_since : ℕ) : Type 0 where
  pub runs : List Run
  pub done : new.done.items ≡ old.done.items ++ runs
  pub took : view new.pass ≡ hand (view old.pass).parts (view old.pass).put ((view old.pass).taken ++ numbers_of runs)
  pub ran : RanAll jobs runs tries refusals tries_since refusals_since
  pub all : IsAll (view new.pass)

-- a worker has capacity for the report of each number that it may yet take
abbrev pub HasSpace : Worker → Type 0
HasSpace w = (vec_len w.done ≤ length (view w.pass).taken) × ((view w.pass).put ≤ vec_capacity w.done)

-- a worker may begin: its pass is of the queue with this table, has a part, and knows of so many jobs at most;
-- there is capacity for their reports
pub record MayWork (queue : TableId) (jobs : ℕ) (w : Worker) : Type 0 where
  pub pass : (w.pass.table_id ≡ queue) × (w.pass.me.1 ≡ [])
  pub parts : 0 < (view w.pass).parts
  pub put : (view w.pass).put ≤ jobs
  pub space : HasSpace w

-- a worker that did nothing yet, for so many jobs
pub record IsFresh (queue : TableId) (jobs : ℕ) (w : Worker) : Type 0 where
  pub may : MayWork queue jobs w
  pub view_is : view w.pass ≡ hand 1 jobs []
  pub done : w.done.items ≡ []
