-- Of what couriers sent: their tries are answered as is known of them.
use Rattle.std.proofs.Common.{◌≡◌, ℕ, zero, suc, ◌<◌, All, IfOk, Result, Ok, Err, Some, List, [], ◌∷◌, length, refl, subst, arith}
use Rattle.std.specs.Prelude.{slice_get}
use Rattle.std.specs.List.{AllZip}
use Rattle.std.proofs.lemmas.Bool.Decides.{nat_tests}
use Rattle.std.proofs.lemmas.List.Elements.{All-head, All-tail}
use Rattle.std.proofs.lemmas.Option.{slice_get_within}
use Rattle.am_model.specs.declared.notice.Report.{Report}
use Rattle.am_retry.specs.Attempts.{tries_of}
use Rattle.am_pool.proofs.Determined.{all_behind, all_front}
use Rattle.am_pool.specs.Dealt.{once_below, times}
use Rattle.am_pool.specs.Sent.{AreReportsOf, AreRuns, AreSent, EachRan, IsRun, times_in}
use Rattle.am_pool.specs.Tries.{all_tried_for}
use Rattle.am_pool.specs.declared.courier.Tried.{Tried}
use Rattle.am_pool.specs.declared.worker.Job.{Job}
use Rattle.am_pool.specs.Sendings.{IsSendingOf}

-- what follows from two facts of a success
pub both_ok : {X Y : Type 0} (r : Result X Y) (P Q R : X → Type 0) → ((x : X) → P x → Q x → R x) → IfOk r P → IfOk r Q → IfOk r R
both_ok (Ok x) P Q R both p q = both x p q
both_ok (Err y) P Q R both p q = tt

-- two lists of a length, and what holds of the items at each index
pub index_by_index : {A B : Type 0} (R : A → B → Type 0) (xs : List A) (ys : List B) → length ys ≡ length xs
    → ((k : ℕ) (x : A) (y : B) → slice_get xs k ≡ Some x → slice_get ys k ≡ Some y → R x y) → AllZip R xs ys
index_by_index R [] [] count each = tt
index_by_index R [] (y ∷ ys) count each = absurd (omega (arith, count))
index_by_index R (x ∷ xs) [] count each = absurd (omega (arith, count))
index_by_index R (x ∷ xs) (y ∷ ys) count each =
    (each 0 x y refl refl, index_by_index R xs ys (omega (arith, count)) (λ k a b is reported. each (suc k) a b is reported))

module _ (Answers : Tried → Type 0) (jobs : List Job) (reports : List Report) (are : AreReportsOf jobs reports) where
  -- job k was sent in tries that are answered so, as report k says
  abbrev Went : ℕ → Type 0
  Went k = (job : Job) × (slice_get jobs k ≡ Some job) × (report : Report) × (slice_get reports k ≡ Some report) × IsSendingOf Answers job report

  of_run : (k : ℕ) (t : List Tried) (r : ℕ) (t' : List Tried) (r' : ℕ) → IsRun jobs reports k t r t' r' → All Answers t' → Went k
  of_run k t r t' r' run all =
      let delivery = run.delivery in
      let made = all_tried_for run.job.notice.now (tries_of run.job.start delivery.responses) in (
        run.job,
        run.job_is,
        run.report,
        run.report_is,
        record {
          names = (are.each k run.job run.report run.job_is run.report_is).names;
          responses = delivery.responses;
          answered = all_behind Answers t made (subst (All Answers) delivery.appended all);
          has = delivery.has;
          attempts_are = delivery.attempts_are;
          end_is = delivery.end_is;
        },
      )

  before_run : (k : ℕ) (t : List Tried) (r : ℕ) (t' : List Tried) (r' : ℕ) → IsRun jobs reports k t r t' r' → All Answers t' → All Answers t
  before_run k t r t' r' run all =
      let delivery = run.delivery in
      all_front Answers t (all_tried_for run.job.notice.now (tries_of run.job.start delivery.responses)) (subst (All Answers) delivery.appended all)

  before_runs : (ks : List ℕ) (t : List Tried) (r : ℕ) (t' : List Tried) (r' : ℕ) → AreRuns jobs reports ks t r t' r' → All Answers t' → All Answers t
  before_runs [] t r t' r' runs all = subst (All Answers) runs.0 all
  before_runs (k ∷ ks) t r t' r' runs all = before_run k t r runs.0 runs.1 runs.2 (before_runs ks runs.0 runs.1 t' r' runs.3 all)

  of_runs : (k : ℕ) (ks : List ℕ) (t : List Tried) (r : ℕ) (t' : List Tried) (r' : ℕ) → AreRuns jobs reports ks t r t' r' → All Answers t'
      → 0 < times k ks → Went k
  of_runs k [] t r t' r' runs all there = absurd (omega (arith, there))
  of_runs k (j ∷ js) t r t' r' runs all there =
      let later = λ (h : 0 < times k js). of_runs k js runs.0 runs.1 t' r' runs.3 all h in
      pick (times k js) refl later
    where
      pick : (n : ℕ) → times k js ≡ n → (0 < times k js → Went k) → Went k
      pick zero none later =
          let here : j ≡ k = grind (arith, nat_tests, there, none) in
          subst Went here (of_run j t r runs.0 runs.1 runs.2 (before_runs js runs.0 runs.1 t' r' runs.3 all))
      pick (suc n) some later = later (omega (arith, some))

  module _ {E : Type 0} (tries : E → List Tried) (refusals : E → ℕ) where
    of_each : (k : ℕ) (kss : List (List ℕ)) (cs ds : List E) → EachRan jobs reports tries refusals kss cs ds → All (λ c. All Answers (tries c)) ds
        → 0 < times_in k kss → Went k
    of_each k [] cs ds ran all there = absurd (omega (arith, there))
    of_each k (ks ∷ kss) (c ∷ cs) (d ∷ ds) ran all there =
        let later = λ (h : 0 < times_in k kss). of_each k kss cs ds ran.1 (All-tail (λ c. All Answers (tries c)) d ds all) h in
        pick (times k ks) refl later
      where
        pick : (n : ℕ) → times k ks ≡ n → (0 < times_in k kss → Went k) → Went k
        pick zero none later = later (omega (arith, there, none))
        pick (suc n) some later =
            of_runs k ks (tries c) (refusals c) (tries d) (refusals d) ran.0 (All-head (λ c. All Answers (tries c)) d ds all) (omega (arith, some))
    of_each k (ks ∷ kss) [] ds ran all there = absurd ran
    of_each k (ks ∷ kss) (c ∷ cs) [] ran all there = absurd ran

    of_job : (old new : List E) → AreSent jobs reports tries refusals old new → All (λ c. All Answers (tries c)) new → (k : ℕ) (job : Job) (report : Report)
        → slice_get jobs k ≡ Some job → slice_get reports k ≡ Some report → IsSendingOf Answers job report
    of_job old new sent all k job report is reported =
        let below = slice_get_within jobs k job is in
        let once : times_in k sent.took ≡ once_below (length jobs) k = sent.once k in
        let went = of_each k sent.took old new sent.ran all (grind (arith, once, below)) in
        let same_job : went.0 ≡ job = cc (went.1, is) in
        let same_report : went.2 ≡ report = cc (went.3, reported) in
        subst (λ (j : Job). IsSendingOf Answers j report) same_job (subst (λ (x : Report). IsSendingOf Answers went.0 x) same_report went.4)

    -- where the tries of all couriers are answered so, those of all jobs are
    pub all_answered : (old new : List E) → AreSent jobs reports tries refusals old new → All (λ c. All Answers (tries c)) new
        → AllZip (IsSendingOf Answers) jobs reports
    all_answered old new sent all = index_by_index (IsSendingOf Answers) jobs reports are.count (of_job old new sent all)
