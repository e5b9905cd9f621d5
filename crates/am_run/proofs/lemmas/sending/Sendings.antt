-- The notices that are sent, and the reports on them.
use Rattle.std.proofs.Common.{ℕ, All, List, [], ◌∷◌, refl, subst}
use Rattle.std.specs.List.{AllZip}
use Rattle.std.proofs.lemmas.List.Elements.{All-head, All-rest}
use Rattle.am_model.specs.declared.notice.Report.{Report}
use Rattle.am_pool.specs.declared.courier.Tried.{Tried}
use Rattle.am_pool.specs.declared.worker.Job.{Job}
use Rattle.am_pool.specs.Sendings.{IsNotStarved, IsSending, IsSendingOf, IsSentFrom}
use Rattle.am_run.specs.Steps.{StartsAt, notices_of}

-- where report k is of job k, the reports are of the notices of the jobs
pub sent_each : (Answers : Tried → Type 0) (at : ℕ) (jobs : List Job) (reports : List Report) → All (StartsAt at) jobs → All IsNotStarved reports
    → AllZip (IsSendingOf Answers) jobs reports → AllZip (IsSentFrom Answers at) (notices_of jobs) reports
sent_each Answers at [] [] starts fed sent = tt
sent_each Answers at [] (r ∷ rs) starts fed sent = absurd sent
sent_each Answers at (j ∷ js) [] starts fed sent = absurd sent
sent_each Answers at (j ∷ js) (r ∷ rs) starts fed sent = (
  (subst (λ (start : ℕ). IsSending Answers start j.notice.now r) (All-head (StartsAt at) j js starts) sent.0, All-head IsNotStarved r rs fed),
  sent_each Answers at js rs (All-rest (StartsAt at) j js (j ∷ js) refl starts) (All-rest IsNotStarved r rs (r ∷ rs) refl fed) sent.1,
)
