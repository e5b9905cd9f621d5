-- Sent: what a pool sends, and the causes for which it sends nothing.
use Rattle.std.specs.Prelude.{◌≡◌, ◌+◌, ◌==◌, ℕ, ◌||◌, nat_lt, List, [], ◌∷◌, ⊤, length, Option, None, Some, slice_get, sum_by}
use Rattle.std.specs.Prelude.{count_by, if◌then◌else◌}
use Rattle.am_model.specs.declared.notice.Report.{Report}
use Rattle.am_retry.specs.Attempts.{Response, end_after}
use Rattle.am_retry.specs.Outcome.{HasOutcome}
use Rattle.am_pool.specs.Delivery.{IsDelivery, IsReportOn, is_starved}
use Rattle.am_pool.specs.declared.courier.Tried.{Tried}
use Rattle.am_pool.specs.Dealt.{times, once_below}
use Rattle.am_pool.specs.declared.limits.TheConstants.{MAX_WORKERS, MAX_JOBS}
use Rattle.am_pool.specs.declared.fault.PoolFault.{PoolFault}
use Rattle.am_pool.specs.declared.fault.PoolFault.TheVariants.{NoMemory, TooManyJobs, BadWorkers}
use Rattle.am_pool.specs.declared.worker.Job.{Job}

-- a report of a job: it names the desk, the flush and the integration of the job's notice, and says the outcome,
-- the number and the end of answers to its attempts
pub record IsReportOf (job : Job) (report : Report) : Type 0 where
  pub names : IsReportOn job.notice.now report
  pub responses : List Response
  pub has : HasOutcome job.start job.notice.now.deadline responses report.outcome
  pub attempts_are : report.attempts ≡ length responses
  pub end_is : report.ended ≡ end_after job.start responses

-- there are as many reports as jobs, and report k is of job k
pub record AreReportsOf (jobs : List Job) (reports : List Report) : Type 0 where
  pub count : length reports ≡ length jobs
  pub each : (k : ℕ) (job : Job) (report : Report) → slice_get jobs k ≡ Some job → slice_get reports k ≡ Some report
      → IsReportOf job report

-- a courier ran job k, and came from these tries and refusals to those; how it went, report k says
pub record IsRun (jobs : List Job) (reports : List Report) (k : ℕ) (tries : List Tried) (refusals : ℕ)
    (tries_since : List Tried) (refusals_since : ℕ) : Type 0 where
  pub job : Job
  pub job_is : slice_get jobs k ≡ Some job
  pub report : Report
  pub report_is : slice_get reports k ≡ Some report
  pub delivery : IsDelivery job.notice.now job.start tries refusals tries_since refusals_since report

-- a courier ran the jobs of these numbers, each whole, one after the other, and nothing else
abbrev pub AreRuns : List Job → List Report → List ℕ → List Tried → ℕ → List Tried → ℕ → Type 0
AreRuns jobs reports [] tries refusals tries_since refusals_since = (tries_since ≡ tries) × (refusals_since ≡ refusals)
AreRuns jobs reports (k ∷ ks) tries refusals tries_since refusals_since =
    (between : List Tried) × (refused : ℕ) × IsRun jobs reports k tries refusals between refused
    × AreRuns jobs reports ks between refused tries_since refusals_since

-- each courier ran the jobs of the numbers at its index, and nothing else
abbrev pub EachRan : {E : Type 0} → List Job → List Report → (E → List Tried) → (E → ℕ) → List (List ℕ) → List E → List E → Type 0
EachRan jobs reports tries refusals [] [] [] = ⊤
EachRan jobs reports tries refusals (ks ∷ kss) (c ∷ cs) (d ∷ ds) =
    AreRuns jobs reports ks (tries c) (refusals c) (tries d) (refusals d) × EachRan jobs reports tries refusals kss cs ds
EachRan jobs reports tries refusals [] (c ∷ cs) ds = ⊥
EachRan jobs reports tries refusals [] [] (d ∷ ds) = ⊥
EachRan jobs reports tries refusals (ks ∷ kss) [] ds = ⊥
EachRan jobs reports tries refusals (ks ∷ kss) (c ∷ cs) [] = ⊥

-- how often a number is in lists
abbrev pub times_in : ℕ → List (List ℕ) → ℕ
times_in k [] = 0
times_in k (ks ∷ kss) = times k ks + times_in k kss

-- the couriers shared the jobs: each ran those of its numbers, and over all couriers the number of each job is once, and no other
pub record AreSent {E : Type 0} (jobs : List Job) (reports : List Report) (tries : E → List Tried) (refusals : E → ℕ)
    (old new : List E) : Type 0 where
  pub took : List (List ℕ)
  pub ran : EachRan jobs reports tries refusals took old new
  pub once : (k : ℕ) → times_in k took ≡ once_below (length jobs) k

-- the refusals of all couriers
abbrev pub all_refusals : {E : Type 0} → (E → ℕ) → List E → ℕ
all_refusals refusals cs = sum_by refusals cs

-- how many reports say Starved
abbrev pub count_starved : List Report → ℕ
count_starved reports = count_by (λ r. is_starved r.outcome) reports

-- why so many workers don't send so many jobs, where memory is there
abbrev pub pool_cause : ℕ → ℕ → Option PoolFault
pool_cause workers jobs =
    if (workers == 0) || nat_lt MAX_WORKERS workers then Some BadWorkers
    else (if nat_lt MAX_JOBS jobs then Some TooManyJobs else None)

-- the cause, or lack of memory where there is none
abbrev pub IsPoolFault : Option PoolFault → PoolFault → Type 0
IsPoolFault None fault = fault ≡ NoMemory
IsPoolFault (Some cause) fault = fault ≡ cause
