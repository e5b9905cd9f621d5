-- What was sent, from what each worker did.
use Rattle.std.proofs.Common.{◌≡◌, ℕ, suc, ◌+◌, ◌<◌, ◌≤◌, ◌==◌, if◌then◌else◌, cond, Option, Some, None, List, [], ◌∷◌, ◌++◌, map}
use Rattle.std.proofs.Common.{length, refl, sym, ap, ◌∙◌, subst, arith}
use Rattle.std.specs.Prelude.{slice_get}
use Rattle.std.specs.List.{AllByRecursion}
use Rattle.std.proofs.lemmas.List.{map-append}
use Rattle.std.proofs.lemmas.List.Sums.{sum_by-cons}
use Rattle.std.proofs.lemmas.List.Elements.{All-from_recursion}
use Rattle.std.proofs.lemmas.Option.{slice_get_within}
use Rattle.atomic_table.specs.Seated.{TableId}
use Rattle.am_model.specs.declared.notice.Report.{Report}
use Rattle.am_pool.specs.Delivery.{is_starved}
use Rattle.am_pool.specs.declared.courier.Tried.{Tried}
use Rattle.crossbeam_queue.specs.Passes.{view}
use Rattle.am_pool.specs.declared.limits.TheConstants.{ALL_PARTS}
use Rattle.am_pool.specs.declared.queue.Hand.{Hand}
use Rattle.am_pool.specs.declared.worker.Job.{Job}
use Rattle.am_pool.specs.declared.worker.Worker.{Worker}
use Rattle.am_pool.specs.Dealt.{hand, weigh, numbers, times, once_below}
use Rattle.am_pool.specs.Work.{Run, RanAll, DidWork, IsFresh, numbers_of}
use Rattle.am_pool.specs.Gathered.{AllWorked, FirstWorked, AreBelow, placed, runs_back, parts_of, weigh_taken, all_runs, IsReportAt, AllRan}
use Rattle.am_pool.specs.Gathered.{Shared}
use Rattle.am_pool.specs.Sent.{IsReportOf, AreReportsOf, AreRuns, EachRan, times_in, AreSent, all_refusals, count_starved}
use Rattle.am_pool.proofs.Weights.{weigh-append, times-numbers}
use Rattle.am_pool.proofs.Gatherings.{placed-append}
use Rattle.am_pool.proofs.Placing.{placed_once, length_placed, times_few, found}

module _ (P : Run → Type 0) where
  each-append : (xs ys : List Run) → AllByRecursion P xs → AllByRecursion P ys → AllByRecursion P (xs ++ ys)
  each-append [] ys a b = b
  each-append (x ∷ xs) ys a b = (a.0, each-append xs ys a.1 b)

  each-left : (xs ys : List Run) → AllByRecursion P (xs ++ ys) → AllByRecursion P xs
  each-left [] ys a = tt
  each-left (x ∷ xs) ys a = (a.0, each-left xs ys a.1)

  each-right : (xs ys : List Run) → AllByRecursion P (xs ++ ys) → AllByRecursion P ys
  each-right [] ys a = a
  each-right (x ∷ xs) ys a = each-right xs ys a.1

each_both : (P Q : Run → Type 0) (xs : List Run)
    → AllByRecursion P xs → AllByRecursion Q xs → AllByRecursion (λ run. P run × Q run) xs
each_both P Q [] a b = tt
each_both P Q (x ∷ xs) a b = ((a.0, b.0), each_both P Q xs a.1 b.1)

-- the runs of all couriers, those of the last first
abbrev pub back_of : List (List Run) → List Run
back_of [] = []
back_of (r ∷ rs) = back_of rs ++ r

-- further runs of the first courier
abbrev pub with_more : List (List Run) → List Run → List (List Run)
with_more [] more = more ∷ []
with_more (r ∷ rs) more = (r ++ more) ∷ rs

module _ (P : Run → Type 0) where
  each_forth : (rs : List (List Run)) → AllByRecursion P (back_of rs) → AllByRecursion P (all_runs rs)
  each_forth [] a = tt
  each_forth (r ∷ rs) a =
      each-append P r (all_runs rs) (each-right P (back_of rs) r a) (each_forth rs (each-left P (back_of rs) r a))

  each_back : (rs : List (List Run)) → AllByRecursion P (all_runs rs) → AllByRecursion P (back_of rs)
  each_back [] a = tt
  each_back (r ∷ rs) a =
      each-append P (back_of rs) r (each_back rs (each-right P r (all_runs rs) a)) (each-left P r (all_runs rs) a)

  each_more : (rs : List (List Run)) (more : List Run)
      → AllByRecursion P (all_runs rs) → AllByRecursion P more → AllByRecursion P (all_runs (with_more rs more))
  each_more [] more a b = each-append P more [] b tt
  each_more (r ∷ rs) more a b =
      each-append P (r ++ more) (all_runs rs)
      (each-append P r more (each-left P r (all_runs rs) a) b) (each-right P r (all_runs rs) a)

module _ (h : ℕ → ℕ) where
  weigh-runs : (xs ys : List Run) → weigh h (numbers_of (xs ++ ys)) ≡ weigh h (numbers_of xs) + weigh h (numbers_of ys)
  weigh-runs xs ys = ap (weigh h) (map-append (λ (x : Run). x.0) xs ys) ∙ weigh-append h (numbers_of xs) (numbers_of ys)

  weigh_back : (rs : List (List Run)) → weigh h (numbers_of (back_of rs)) ≡ weigh h (numbers_of (all_runs rs))
  weigh_back [] = refl
  weigh_back (r ∷ rs) = omega (arith, weigh-runs (back_of rs) r, weigh_back rs, weigh-runs r (all_runs rs))

  weigh_more : (rs : List (List Run)) (more : List Run)
      → weigh h (numbers_of (all_runs (with_more rs more))) ≡ weigh h (numbers_of (all_runs rs)) + weigh h (numbers_of more)
  weigh_more [] more = weigh-runs more [] ∙ omega arith
  weigh_more (r ∷ rs) more =
      omega (arith, weigh-runs (r ++ more) (all_runs rs), weigh-runs r more, weigh-runs r (all_runs rs))

-- 1 for a report that says Starved
abbrev pub one_starved : Report → ℕ
one_starved r = cond (is_starved r.outcome) 1 0

abbrev pub starved_in : List Run → ℕ
starved_in [] = 0
starved_in (run ∷ runs) = one_starved run.1 + starved_in runs

starved-append : (xs ys : List Run) → starved_in (xs ++ ys) ≡ starved_in xs + starved_in ys
starved-append [] ys = omega arith
starved-append (x ∷ xs) ys = omega (arith, starved-append xs ys)

abbrev pub starved_at : Option Report → ℕ
starved_at None = 0
starved_at (Some r) = one_starved r

starved_reported : (reports : List Report) (runs : List Run) → AllByRecursion (IsReportAt reports) runs
    → starved_in runs ≡ weigh (λ k. starved_at (slice_get reports k)) (numbers_of runs)
starved_reported reports [] all = refl
starved_reported reports (run ∷ runs) all = omega (arith, ap starved_at all.0, starved_reported reports runs all.1)

starved_numbers : (rs : List Report) (from : ℕ) (h : ℕ → ℕ) → ((i : ℕ) → h (from + i) ≡ starved_at (slice_get rs i))
    → weigh h (numbers from (length rs)) ≡ count_starved rs
starved_numbers [] from h all = refl
starved_numbers (r ∷ rs) from h all =
    let here : from + 0 ≡ from = omega arith in
    let next : (i : ℕ) → from + 1 + i ≡ from + suc i = λ i. omega arith in
    let rest = starved_numbers rs (from + 1) h (λ i. ap h (next i) ∙ all (suc i)) in
    omega (arith, sym (ap h here) ∙ all 0, rest, sum_by-cons one_starved r rs)

module _ (jobs : List Job) where
  abbrev pub IsBelow : Run → Type 0
  IsBelow run = run.0 < length jobs

  -- a run's report is of its job
  abbrev pub IsOfJob : Run → Type 0
  IsOfJob run = (job : Job) × (slice_get jobs run.0 ≡ Some job) × IsReportOf job run.1

  runs_below : (runs : List Run) (t : List Tried) (r : ℕ) (t' : List Tried) (r' : ℕ)
      → RanAll jobs runs t r t' r' → AllByRecursion IsBelow runs
  runs_below [] t r t' r' all = tt
  runs_below (run ∷ runs) t r t' r' all =
      (slice_get_within jobs run.0 (all.2).job (all.2).there, runs_below runs all.0 all.1 t' r' all.3)

  runs_of_jobs : (runs : List Run) (t : List Tried) (r : ℕ) (t' : List Tried) (r' : ℕ)
      → RanAll jobs runs t r t' r' → AllByRecursion IsOfJob runs
  runs_of_jobs [] t r t' r' all = tt
  runs_of_jobs (run ∷ runs) t r t' r' all =
      let delivery = (all.2).delivery in
      let is : IsReportOf (all.2).job run.1 =
      record {
        names = (all.2).of_notice;
        responses = delivery.responses;
        has = delivery.has;
        attempts_are = delivery.attempts_are;
        end_is = delivery.end_is;
      } in
      (((all.2).job, (all.2).there, is), runs_of_jobs runs all.0 all.1 t' r' all.3)

  runs_refusals : (runs : List Run) (t : List Tried) (r : ℕ) (t' : List Tried) (r' : ℕ)
      → RanAll jobs runs t r t' r' → r' ≡ r + starved_in runs
  runs_refusals [] t r t' r' all = omega (arith, all.1)
  runs_refusals (run ∷ runs) t r t' r' all =
      let one : all.1 ≡ r + one_starved run.1 = (all.2).delivery.refused in
      omega (arith, one, runs_refusals runs all.0 all.1 t' r' all.3)

  runs-append : (xs ys : List Run) (t : List Tried) (r : ℕ) (t1 : List Tried) (r1 : ℕ) (t2 : List Tried) (r2 : ℕ)
      → RanAll jobs xs t r t1 r1 → RanAll jobs ys t1 r1 t2 r2 → RanAll jobs (xs ++ ys) t r t2 r2
  runs-append [] ys t r t1 r1 t2 r2 a b = subst (λ (x : List Tried × ℕ). RanAll jobs ys x.0 x.1 t2 r2) (λ i. (a.0 i, a.1 i)) b
  runs-append (x ∷ xs) ys t r t1 r1 t2 r2 a b = (a.0, a.1, a.2, runs-append xs ys a.0 a.1 t1 r1 t2 r2 a.3 b)

  are_runs : (reports : List Report) (runs : List Run) (t : List Tried) (r : ℕ) (t' : List Tried) (r' : ℕ)
      → RanAll jobs runs t r t' r' → AllByRecursion (IsReportAt reports) runs → AreRuns jobs reports (numbers_of runs) t r t' r'
  are_runs reports [] t r t' r' all reported_at = all
  are_runs reports (run ∷ runs) t r t' r' all reported_at = (
    all.0,
    all.1,
    record {
      job = (all.2).job;
      job_is = (all.2).there;
      report = run.1;
      report_is = reported_at.0;
      delivery = (all.2).delivery;
    },
    are_runs reports runs all.0 all.1 t' r' all.3 reported_at.1,
  )

-- the numbers of each courier's runs
abbrev pub took_of : List (List Run) → List (List ℕ)
took_of [] = []
took_of (r ∷ rs) = numbers_of r ∷ took_of rs

times_took : (k : ℕ) (rs : List (List Run)) → times_in k (took_of rs) ≡ times k (numbers_of (all_runs rs))
times_took k [] = refl
times_took k (r ∷ rs) = omega (arith, times_took k rs, weigh-runs (λ y. if y == k then 1 else 0) r (all_runs rs))

module _ {E : Type 0} (jobs : List Job) (tries : E → List Tried) (refusals : E → ℕ) where
  ran_below : (runs : List (List Run)) (old new : List E) → AllRan jobs tries refusals runs old new
      → AllByRecursion (IsBelow jobs) (all_runs runs)
  ran_below [] old new all = tt
  ran_below (r ∷ rs) (c ∷ cs) (d ∷ ds) all =
      each-append (IsBelow jobs) r (all_runs rs) (runs_below jobs r _ _ _ _ all.0) (ran_below rs cs ds all.1)
  ran_below (r ∷ rs) [] ds all = absurd all
  ran_below (r ∷ rs) (c ∷ cs) [] all = absurd all

  ran_of_jobs : (runs : List (List Run)) (old new : List E) → AllRan jobs tries refusals runs old new
      → AllByRecursion (IsOfJob jobs) (all_runs runs)
  ran_of_jobs [] old new all = tt
  ran_of_jobs (r ∷ rs) (c ∷ cs) (d ∷ ds) all =
      each-append (IsOfJob jobs) r (all_runs rs) (runs_of_jobs jobs r _ _ _ _ all.0) (ran_of_jobs rs cs ds all.1)
  ran_of_jobs (r ∷ rs) [] ds all = absurd all
  ran_of_jobs (r ∷ rs) (c ∷ cs) [] all = absurd all

  ran_refusals : (runs : List (List Run)) (old new : List E) → AllRan jobs tries refusals runs old new
      → all_refusals refusals new ≡ all_refusals refusals old + starved_in (all_runs runs)
  ran_refusals [] [] [] all = omega arith
  ran_refusals (r ∷ rs) (c ∷ cs) (d ∷ ds) all =
      let first = runs_refusals jobs r _ _ _ _ all.0 in
      let others = ran_refusals rs cs ds all.1 in
      omega (arith, first, others, starved-append r (all_runs rs), sum_by-cons refusals c cs, sum_by-cons refusals d ds)
  ran_refusals [] (c ∷ cs) ds all = absurd all
  ran_refusals [] [] (d ∷ ds) all = absurd all
  ran_refusals (r ∷ rs) [] ds all = absurd all
  ran_refusals (r ∷ rs) (c ∷ cs) [] all = absurd all

  ran_more : (runs : List (List Run)) (more : List Run) (old : List E) (m d : E) (ms : List E)
      → AllRan jobs tries refusals runs old (m ∷ ms) → RanAll jobs more (tries m) (refusals m) (tries d) (refusals d)
      → AllRan jobs tries refusals (with_more runs more) old (d ∷ ms)
  ran_more (r ∷ rs) more (o ∷ os) m d ms all one = (runs-append jobs r more _ _ _ _ _ _ all.0 one, all.1)
  ran_more [] more [] m d ms all one = absurd all
  ran_more [] more (o ∷ os) m d ms all one = absurd all
  ran_more (r ∷ rs) more [] m d ms all one = absurd all

  each_ran : (reports : List Report) (runs : List (List Run)) (old new : List E) → AllRan jobs tries refusals runs old new
      → AllByRecursion (IsReportAt reports) (all_runs runs) → EachRan jobs reports tries refusals (took_of runs) old new
  each_ran reports [] [] [] all reported_at = tt
  each_ran reports (r ∷ rs) (c ∷ cs) (d ∷ ds) all reported_at = (
    are_runs jobs reports r _ _ _ _ all.0 (each-left (IsReportAt reports) r (all_runs rs) reported_at),
    each_ran reports rs cs ds all.1 (each-right (IsReportAt reports) r (all_runs rs) reported_at),
  )
  each_ran reports [] (c ∷ cs) ds all reported_at = absurd all
  each_ran reports [] [] (d ∷ ds) all reported_at = absurd all
  each_ran reports (r ∷ rs) [] ds all reported_at = absurd all
  each_ran reports (r ∷ rs) (c ∷ cs) [] all reported_at = absurd all

  pub are_sent : (reports : List Report) (old new : List E) → Shared jobs tries refusals reports old new
      → AreSent jobs reports tries refusals old new
  are_sent reports old new s =
      record {
        took = took_of s.runs;
        ran = each_ran reports s.runs old new s.ran s.reported_at;
        once = λ k. times_took k s.runs ∙ s.weighs (λ y. if y == k then 1 else 0) ∙ times-numbers k (length jobs);
      }

  pub are_reports : (reports : List Report) (old new : List E) → Shared jobs tries refusals reports old new → AreReportsOf jobs reports
  are_reports reports old new s =
      record {
        count = s.count;
        each = λ k job report is reported.
            let all = all_runs s.runs in
            let below = slice_get_within jobs k job is in
            let once : times k (numbers_of all) ≡ once_below (length jobs) k =
            s.weighs (λ y. if y == k then 1 else 0) ∙ times-numbers k (length jobs) in
            let there : 0 < times k (numbers_of all) = grind (arith, once, below) in
            let both = each_both (IsOfJob jobs) (IsReportAt reports) all (ran_of_jobs s.runs old new s.ran) s.reported_at in
            let here = found (λ run. IsOfJob jobs run × IsReportAt reports run) k all both there in
            same_report k job report is reported here.0 here.1 here.2.0 here.2.1;
      }
    where
      same_report : (k : ℕ) (job : Job) (report : Report)
          → slice_get jobs k ≡ Some job → slice_get reports k ≡ Some report
          → (run : Run) → run.0 ≡ k → IsOfJob jobs run → IsReportAt reports run → IsReportOf job report
      same_report k job report is reported run e of_job reported_at =
          let same_job : of_job.0 ≡ job = cc (ap (slice_get jobs) e, of_job.1, is) in
          let same_report : run.1 ≡ report = cc (ap (slice_get reports) e, reported_at, reported) in
          subst (λ (j : Job). IsReportOf j report) same_job (subst (IsReportOf of_job.0) same_report of_job.2)

  pub refused : (reports : List Report) (old new : List E) → Shared jobs tries refusals reports old new
      → all_refusals refusals new ≡ all_refusals refusals old + count_starved reports
  refused reports old new s =
      let h = λ (k : ℕ). starved_at (slice_get reports k) in
      let numbered : weigh h (numbers 0 (length reports)) ≡ count_starved reports =
      starved_numbers reports 0 h (λ i. ap h (omega arith)) in
      let all = starved_reported reports (all_runs s.runs) s.reported_at in
      let same = ap (λ (n : ℕ). weigh h (numbers 0 n)) s.count in
      omega (arith, ran_refusals s.runs old new s.ran, all, s.weighs h, same, numbered)

  -- nothing was sent by couriers that stay as they are
  none_ran : (cs : List E) → AllRan jobs tries refusals (map (λ _. []) cs) cs cs
  none_ran [] = tt
  none_ran (c ∷ cs) = ((refl, refl), none_ran cs)

  no_runs : (cs : List E) → all_runs (map (λ (_ : E). []) cs) ≡ []
  no_runs [] = refl
  no_runs (c ∷ cs) = no_runs cs

  -- where there is no job
  pub shared_none : (cs : List E) (reports : List Report) → length jobs ≡ 0 → reports ≡ [] → Shared jobs tries refusals reports cs cs
  shared_none cs reports empty none =
      let nothing = no_runs cs in
      record {
        runs = map (λ _. []) cs;
        ran = none_ran cs;
        weighs = λ h. ap (λ (l : List Run). weigh h (numbers_of l)) nothing ∙ ap (λ (n : ℕ). weigh h (numbers 0 n)) (sym empty);
        count = ap length none ∙ sym empty;
        reported_at = subst (AllByRecursion (IsReportAt reports)) (sym nothing) tt;
      }

  -- what all workers did together
  pub record Together (news : List Worker) (old new : List E) : Type 0 where
    pub runs : List (List Run)
    pub ran : AllRan jobs tries refusals runs old new
    pub back : runs_back news ≡ back_of runs
    pub parts : parts_of news ≡ length news
    pub taken : (h : ℕ → ℕ) → weigh_taken h news ≡ weigh h (numbers_of (all_runs runs))
    pub each : AllByRecursion (λ (s : Worker). 0 < (view s.pass).parts) news
    pub below : AllByRecursion (λ (s : Worker). AreBelow (length jobs) s.done.items) news

  pub together : (queue : TableId) (count : ℕ) (ss ts : List Worker) (cs ds : List E)
      → AllWorked jobs tries refusals ss ts cs ds → AllByRecursion (IsFresh queue count) ss → Together ts cs ds
  together queue count [] [] [] [] all fresh =
      record { runs = []; ran = tt; back = refl; parts = refl; taken = λ h. refl; each = tt; below = tt }
  together queue count (s ∷ ss) (t ∷ ts) (c ∷ cs) (d ∷ ds) all fresh =
      let w = all.0 in
      let r = together queue count ss ts cs ds all.1 fresh.1 in
      let done : t.done.items ≡ w.runs = w.done ∙ ap (λ (l : List Run). l ++ w.runs) (fresh.0).done in
      let is : view t.pass ≡ hand 1 count (numbers_of w.runs) =
      w.took ∙ ap (λ (v : Hand). hand v.parts v.put (v.taken ++ numbers_of w.runs)) (fresh.0).view_is in
      let parts : (view t.pass).parts ≡ 1 = ap (λ (v : Hand). v.parts) is in
      let below = runs_below jobs w.runs _ _ _ _ w.ran in
      record {
        runs = w.runs ∷ r.runs;
        ran = (w.ran, r.ran);
        back = ap (λ (l : List Run). runs_back ts ++ l) done ∙ ap (λ (l : List Run). l ++ w.runs) r.back;
        parts = omega (arith, parts, r.parts);
        taken = λ h. omega (arith, ap (λ (v : Hand). weigh h v.taken) is, r.taken h, weigh-runs h w.runs (all_runs r.runs));
        each = (omega (arith, parts), r.each);
        below = (
          All-from_recursion (IsBelow jobs) t.done.items (subst (AllByRecursion (IsBelow jobs)) (sym done) below),
          r.below,
        );
      }
  together queue count [] (t ∷ ts) cs ds all fresh = absurd all
  together queue count [] [] (c ∷ cs) ds all fresh = absurd all
  together queue count [] [] [] (d ∷ ds) all fresh = absurd all
  together queue count (s ∷ ss) [] cs ds all fresh = absurd all
  together queue count (s ∷ ss) (t ∷ ts) [] ds all fresh = absurd all
  together queue count (s ∷ ss) (t ∷ ts) (c ∷ cs) [] all fresh = absurd all

  -- all workers are done, their passes are one again and their reports are in their places, and that pass worked once more
  pub record Gathers (news : List Worker) (blanks reports : List Report) (old mid : List E) (last gone : Worker) : Type 0 where
    pub all : Together news old mid
    pub done : last.done.items ≡ []
    pub parts : (view last.pass).parts ≡ ALL_PARTS
    pub put : (view last.pass).put ≡ length jobs
    pub taken : (h : ℕ → ℕ) → weigh h (view last.pass).taken ≡ weigh_taken h news
    pub blank : length blanks ≡ length jobs
    pub placed_are : reports ≡ placed (placed blanks (runs_back news)) gone.done.items

  module _ (news : List Worker) (blanks reports : List Report) (old : List E) (m d : E) (ms : List E) (last gone : Worker)
      (e : Gathers news blanks reports old (m ∷ ms) last gone)
      (work : DidWork jobs last gone (tries m) (refusals m) (tries d) (refusals d)) where
    abbrev more : List Run
    more = work.runs

    abbrev rs : List (List Run)
    rs = with_more e.all.runs more

    abbrev in_order : List Run
    in_order = back_of e.all.runs ++ more

    whole : (h : ℕ → ℕ)
        → weigh h (numbers_of (all_runs e.all.runs)) + weigh h (numbers_of more) ≡ weigh h (numbers 0 (length jobs))
    whole h =
        let took = work.took in
        let parts : (view gone.pass).parts ≡ ALL_PARTS = ap (λ (v : Hand). v.parts) took ∙ e.parts in
        let put : (view gone.pass).put ≡ length jobs = ap (λ (v : Hand). v.put) took ∙ e.put in
        let taken = ap (λ (v : Hand). weigh h v.taken) took in
        let both = weigh-append h (view last.pass).taken (numbers_of more) in
        omega (arith, work.all parts h, taken, both, e.taken h, e.all.taken h, ap (λ (n : ℕ). weigh h (numbers 0 n)) put)

    all_placed : reports ≡ placed blanks in_order
    all_placed =
        e.placed_are
        ∙ ap (λ (l : List Run). placed (placed blanks (runs_back news)) l) (work.done ∙ ap (λ (l : List Run). l ++ more) e.done)
        ∙ ap (λ (l : List Run). placed (placed blanks l) more) e.all.back
        ∙ sym (placed-append blanks (back_of e.all.runs) more)

    few : (k : ℕ) → times k (numbers_of in_order) ≤ 1
    few k =
        let is : ℕ → ℕ = λ y. if y == k then 1 else 0 in
        omega (arith, times_few k 0 (length jobs), whole is, weigh-runs is (back_of e.all.runs) more, weigh_back is e.all.runs)

    each : AllByRecursion (IsReportAt reports) (all_runs rs)
    each =
        let there = IsReportAt reports in
        let back = each_back (IsBelow jobs) e.all.runs (ran_below e.all.runs old (m ∷ ms) e.all.ran) in
        let below = each-append (IsBelow jobs) (back_of e.all.runs) more back (runs_below jobs more _ _ _ _ work.ran) in
        let most = subst (λ (n : ℕ). AllByRecursion (λ (run : Run). run.0 < n) in_order) (sym e.blank) below in
        let all = placed_once blanks in_order reports all_placed few most in
        each_more there e.all.runs more
        (each_forth there e.all.runs (each-left there (back_of e.all.runs) more all))
        (each-right there (back_of e.all.runs) more all)

    shared_by : Shared jobs tries refusals reports old (d ∷ ms)
    shared_by =
        record {
          runs = rs;
          ran = ran_more e.all.runs more old m d ms e.all.ran work.ran;
          weighs = λ h. weigh_more h e.all.runs more ∙ whole h;
          count = ap length all_placed ∙ length_placed blanks in_order ∙ e.blank;
          reported_at = each;
        }

  pub all_shared : (news : List Worker) (blanks reports : List Report) (old mid new : List E) (last gone : Worker)
      → Gathers news blanks reports old mid last gone → FirstWorked jobs tries refusals last gone mid new
      → Shared jobs tries refusals reports old new
  all_shared news blanks reports old (m ∷ ms) (d ∷ ds) last gone e w =
      subst (λ (l : List E). Shared jobs tries refusals reports old (d ∷ l)) (sym w.1)
      (shared_by news blanks reports old m d ms last gone e w.0)
  all_shared news blanks reports old [] new last gone e w = absurd w
  all_shared news blanks reports old (m ∷ ms) [] last gone e w = absurd w

  pub first_below : (last gone : Worker) (mid new : List E) → last.done.items ≡ []
      → FirstWorked jobs tries refusals last gone mid new → AreBelow (length jobs) gone.done.items
  first_below last gone (m ∷ ms) (d ∷ ds) none w =
      let work = w.0 in
      let done : gone.done.items ≡ work.runs = work.done ∙ ap (λ (l : List Run). l ++ work.runs) none in
      let below = runs_below jobs work.runs _ _ _ _ work.ran in
      All-from_recursion (IsBelow jobs) gone.done.items (subst (AllByRecursion (IsBelow jobs)) (sym done) below)
  first_below last gone [] new none w = absurd w
  first_below last gone (m ∷ ms) [] none w = absurd w
