-- A sending to a receiver whose outages end: it succeeds soon after their end, or it expires, and then its deadline comes soon.
use Rattle.std.proofs.Common.{◌≡◌, ℕ, ◌+◌, ◌<◌, ◌≤◌, max, min, Bool, true, false, not, ◌&&◌, ◌||◌, nat_le, nat_lt, All, List, [], ◌∷◌, ◌++◌, length, map, Option, Some, None, ◌⊎◌, inl, inr, refl, sym, ap, ◌∙◌, subst, arith, if◌then◌else◌}
use Rattle.std.specs.Prelude.{find}
use Rattle.std.specs.List.{list_all}
use Rattle.std.specs.Str.{bytes_eq}
use Rattle.std.proofs.lemmas.Bool.{false≢true, and_parts, leb-true, ltb-true, not-true}
use Rattle.std.proofs.lemmas.Bool.Decides.{nat_tests}
use Rattle.std.proofs.lemmas.List.{map-append}
use Rattle.std.proofs.lemmas.List.Elements.{All-head}
use Rattle.am_retry.proofs.Fronts.{attempt_after-push, end_after-push, has_front}
use Rattle.am_retry.proofs.Tries.{one_more_try}
use Rattle.am_retry.proofs.Waits.{wait_of-most}
use Rattle.am_retry.specs.Attempts.{Response, Try, attempt_after, end_after, end_of, tries_of}
use Rattle.am_retry.specs.Outcome.{HasOutcome, all_again, are_in_time, asks_again, ends_with, is_again, is_never}
use Rattle.am_retry.specs.declared.outcome.Answer.{Answer}
use Rattle.am_retry.specs.declared.outcome.Answer.TheVariants.{Done, Never}
use Rattle.am_retry.specs.declared.outcome.Outcome.{Outcome}
use Rattle.am_retry.specs.declared.outcome.Outcome.TheVariants.{Delivered, Refused, Expired, Starved}
use Rattle.am_model.specs.Finish.{is_delivered}
use Rattle.am_model.specs.Notice.{NoticeData}
use Rattle.am_model.specs.declared.notice.Report.{Report}
use Rattle.am_pool.proofs.Determined.{all_behind, all_front}
use Rattle.am_pool.specs.Delivery.{is_starved}
use Rattle.am_pool.specs.Sendings.{IsAnsweredBy, end_on}
use Rattle.am_pool.specs.Tries.{all_tried_for, tried_for}
use Rattle.am_pool.specs.declared.courier.Sent.{Sent}
use Rattle.am_simulation.specs.Answers.{IsOutcome, answer_of, covers, cut_short, is_for, is_over, sent_by, tried_by, tried_until}
use Rattle.am_simulation.specs.Steps.{is_success}
use Rattle.am_terms.specs.declared.rehearsal.Outage.{Outage}
use Rattle.am_plays.specs.PlaysInTime.{runs_past}
use Rattle.am_plays.specs.PlaysRecover.{SendingsComeThrough, recovered_by, recovers}
use Rattle.am_plays.proofs.Instant.{done_at}

-- ---- the last of some answers

-- a list that isn't empty ends with an item
split_last : {X : Type 0} (x : X) (xs : List X) → (front : List X) × (last : X) × ((x ∷ xs) ≡ front ++ last ∷ [])
split_last x [] = ([], x, refl)
split_last x (y ∷ ys) =
    let later = split_last y ys in
    (x ∷ later.0, later.1, ap (λ l. x ∷ l) later.2)

last_again : (us : List Response) (t : Response) → all_again (us ++ t ∷ []) ≡ true → is_again t.answer ≡ true
last_again [] t all = (and_parts (is_again t.answer) true all).0
last_again (u ∷ us) t all = last_again us t (and_parts (is_again u.answer) (all_again (us ++ t ∷ [])) all).1

last_never : (us : List Response) (t : Response) → ends_with is_never (us ++ t ∷ []) ≡ true → is_never t.answer ≡ true
last_never [] t ends = ends
last_never (u ∷ []) t ends = (and_parts (is_again u.answer) (is_never t.answer) ends).1
last_never (u ∷ v ∷ us) t ends = last_never (v ∷ us) t (and_parts (is_again u.answer) (ends_with is_never (v ∷ us ++ t ∷ [])) ends).1

not-again : (b : Answer) → b ≡ Done → is_again b ≡ true → ⊥
not-again b is again = false≢true (sym (ap is_again is) ∙ again)

not-never : (b : Answer) → b ≡ Done → is_never b ≡ true → ⊥
not-never b is never = false≢true (sym (ap is_never is) ∙ never)

-- ---- one attempt

-- one that isn't over by x isn't after x
before_over : (x at : ℕ) (to : Option ℕ) → is_over x to ≡ true → is_over at to ≡ false → at < x
before_over x at None over covers_it = absurd (false≢true over)
before_over x at (Some to) over covers_it = grind (arith, nat_tests, over, covers_it)

module _ (outages : List Outage) (receiver : List ℕ) (x d : ℕ) (recovers_then : recovers x d receiver outages ≡ true) where
  -- how an attempt goes: done at once; or it is before x, takes no longer than d, and isn't refused for good
  abbrev Goes : ℕ → Sent → Type 0
  Goes at sent = (sent ≡ done_at at) ⊎ ((at < x) × (sent.ended ≤ at + d) × (is_never sent.answer ≡ false))

  one_goes : (integration at : ℕ) (os : List Outage) → recovers x d receiver os ≡ true → Goes at (sent_by at (find (covers receiver integration at) os))
  one_goes integration at [] all = inl refl
  one_goes integration at (o ∷ os) all =
      let parts =
      and_parts (not (bytes_eq o.receiver receiver) || (is_over x o.to && (not (is_never o.answer) && nat_le o.takes d)))
      (list_all (λ p. not (bytes_eq p.receiver receiver) || (is_over x p.to && (not (is_never p.answer) && nat_le p.takes d))) os) all
      in
      by parts.0 (covers receiver integration at o) refl (one_goes integration at os parts.1)
    where
      within : (own : Bool) → own ≡ true → (not own || (is_over x o.to && (not (is_never o.answer) && nat_le o.takes d))) ≡ true
          → (is_over x o.to && (not (is_never o.answer) && nat_le o.takes d)) ≡ true
      within true is all = all
      within false is all = absurd (false≢true is)

      by : (not (bytes_eq o.receiver receiver) || (is_over x o.to && (not (is_never o.answer) && nat_le o.takes d))) ≡ true → (b : Bool) → covers receiver integration at o ≡ b
          → Goes at (sent_by at (find (covers receiver integration at) os)) → Goes at (sent_by at (if b then Some o else find (covers receiver integration at) os))
      by own false is rest = rest
      by own true is rest =
          let one = and_parts (is_for integration o.integration && nat_le o.from at && not (is_over at o.to)) (bytes_eq o.receiver receiver) is in
          let two = and_parts (is_for integration o.integration && nat_le o.from at) (not (is_over at o.to)) one.0 in
          let this = within (bytes_eq o.receiver receiver) one.1 own in
          let over = and_parts (is_over x o.to) (not (is_never o.answer) && nat_le o.takes d) this in
          let mild = and_parts (not (is_never o.answer)) (nat_le o.takes d) over.1 in
          let takes : o.takes ≤ d = leb-true o.takes d mild.1 in
          inr (before_over x at o.to over.0 (not-true (is_over at o.to) two.1), omega (arith, takes), not-true (is_never o.answer) mild.0)

  -- so it goes where the dispatcher isn't stopped until the receiver has recovered, and the attempt begins before that
  cut_goes : (at : ℕ) (cut : Option ℕ) (sent : Sent) → runs_past (recovered_by x d) cut ≡ true → runs_past at cut ≡ true → Goes at sent → Goes at (cut_short cut at sent)
  cut_goes at None sent runs now goes = goes
  cut_goes at (Some cut) sent runs now goes =
      let until : recovered_by x d < cut = ltb-true (recovered_by x d) cut runs in
      let before : at < cut = ltb-true at cut now in
      subst (λ b. Goes at (if b then record { answer = Never; ended = max at cut } else sent)) (sym (ends until before goes)) goes
    where
      ends : recovered_by x d < cut → at < cut → Goes at sent → nat_lt cut sent.ended ≡ false
      ends until before (inl now) = let is : sent.ended ≡ at = ap (λ (s : Sent). s.ended) now in grind (arith, nat_tests, before, is)
      ends until before (inr slow) =
          let early : at < x = slow.0 in
          let come : sent.ended ≤ at + d = slow.1 in
          let soon : sent.ended < cut = omega (arith, until, early, come) in
          grind (arith, nat_tests, soon)

-- ---- one sending

-- an attempt that begins before the notice's last time begins before the cut
in_time_runs : (cut : Option ℕ) (at deadline : ℕ) → at < tried_until cut deadline → runs_past at cut ≡ true
in_time_runs None at deadline early = refl
in_time_runs (Some cut) at deadline early = grind (arith, nat_tests, early)

-- what is tried up to a time is tried up to its deadline, where the dispatcher isn't stopped by that time
late_deadline : (cut : Option ℕ) (at deadline : ℕ) → runs_past at cut ≡ true → tried_until cut deadline ≤ at → deadline ≤ at
late_deadline None at deadline runs late = late
late_deadline (Some cut) at deadline runs late = let until : at < cut = ltb-true at cut runs in omega (arith, until, late)

early_tried : (cut : Option ℕ) (at deadline : ℕ) → runs_past at cut ≡ true → at < deadline → at < tried_until cut deadline
early_tried None at deadline runs early = early
early_tried (Some cut) at deadline runs early = let until : at < cut = ltb-true at cut runs in omega (arith, until, early)

runs_sooner : (cut : Option ℕ) (sooner later : ℕ) → sooner ≤ later → runs_past later cut ≡ true → runs_past sooner cut ≡ true
runs_sooner None sooner later less runs = refl
runs_sooner (Some cut) sooner later less runs = grind (arith, nat_tests, less, runs)

module _ (cut : Option ℕ) (outages : List Outage) (receiver : List ℕ) (x d : ℕ) (start : ℕ) (n : NoticeData) (recovers_then : recovers x d receiver outages ≡ true)
    (runs : runs_past (max start (recovered_by x d)) cut ≡ true) (early : start < n.deadline) where
  abbrev until : ℕ
  until = recovered_by x d

  abbrev answer : ℕ → ℕ → ℕ → ℕ → Sent
  answer = answer_of cut outages receiver

  -- the notice as it is sent
  abbrev sent : NoticeData
  sent = tried_by cut n

  runs_until : runs_past until cut ≡ true
  runs_until = runs_sooner cut until (max start until) (omega arith) runs

  abbrev AreAnswered : List Response → Type 0
  AreAnswered responses = All (IsAnsweredBy answer) (all_tried_for sent (tries_of start responses))

  abbrev Was : Response → ℕ → Type 0
  Was t at = Goes outages receiver x d recovers_then at (record { answer = t.answer; ended = t.ended })

  -- what is known of the last answer, and of those before it
  record IsLast (us : List Response) (t : Response) : Type 0 where
    was : Was t (attempt_after start us)
    answered : AreAnswered us
    asks : HasOutcome start sent.deadline us Starved

  last_is : (us : List Response) (t : Response) (outcome : Outcome) → AreAnswered (us ++ t ∷ []) → HasOutcome start sent.deadline (us ++ t ∷ []) outcome → IsLast us t
  last_is us t outcome answered has =
      let at = attempt_after start us in
      let last : Try = record { attempt = length us + 1; at = at; answer = t.answer; ended = t.ended } in
      let tries : all_tried_for sent (tries_of start (us ++ t ∷ [])) ≡ all_tried_for sent (tries_of start us) ++ tried_for sent last ∷ [] =
      ap (map (tried_for sent)) (one_more_try start us t) ∙ map-append (tried_for sent) (tries_of start us) (last ∷ [])
      in
      let all = subst (All (IsAnsweredBy answer)) tries answered in
      let here : IsAnsweredBy answer (tried_for sent last) =
      All-head (IsAnsweredBy answer) (tried_for sent last) [] (all_behind (IsAnsweredBy answer) (all_tried_for sent (tries_of start us)) (tried_for sent last ∷ []) all)
      in
      let before : HasOutcome start sent.deadline us Starved = has_front start sent.deadline us t [] outcome has in
      let in_time : at < sent.deadline = ltb-true at sent.deadline (and_parts (asks_again start sent.deadline us) (nat_lt at sent.deadline) before).1 in
      record {
        was = subst (Goes outages receiver x d recovers_then at) (sym here)
            (cut_goes outages receiver x d recovers_then at cut (sent_by at (find (covers receiver n.integration at) outages)) runs_until (in_time_runs cut at n.deadline in_time)
            (one_goes outages receiver x d recovers_then n.integration at outages recovers_then));
        answered = all_front (IsAnsweredBy answer) (all_tried_for sent (tries_of start us)) (tried_for sent last ∷ []) all;
        asks = before;
      }

  -- an answer that asks for another attempt came before x; so the next one begins by when the receiver has recovered
  asks_soon : (us : List Response) (t : Response) → IsLast us t → is_again t.answer ≡ true → (end_of (attempt_after start us) t.ended < x + d) × (attempt_after start (us ++ t ∷ []) < until)
  asks_soon us t last again = by last.was
    where
      by : Was t (attempt_after start us) → (end_of (attempt_after start us) t.ended < x + d) × (attempt_after start (us ++ t ∷ []) < until)
      by (inl now) = absurd (not-again t.answer (ap (λ (s : Sent). s.answer) now) again)
      by (inr slow) =
          let before : attempt_after start us < x = slow.0 in
          let come : t.ended ≤ attempt_after start us + d = slow.1 in
          let most = wait_of-most (length us) in
          let next = attempt_after-push start us t in
          (omega (arith, before, come), omega (arith, before, come, most, next))

  -- an attempt that is due begins by then, or at the start
  due_soon : (us : List Response) → AreAnswered us → HasOutcome start sent.deadline us Starved → attempt_after start us ≤ max start until
  due_soon [] answered asks = omega arith
  due_soon (u ∷ us) answered asks =
      let split = split_last u us in
      subst (λ (l : List Response). attempt_after start l ≤ max start until) (sym split.2)
      (by split.0 split.1 (subst AreAnswered split.2 answered) (subst (λ (l : List Response). HasOutcome start sent.deadline l Starved) split.2 asks))
    where
      by : (front : List Response) (last : Response) → AreAnswered (front ++ last ∷ []) → HasOutcome start sent.deadline (front ++ last ∷ []) Starved → attempt_after start (front ++ last ∷ []) ≤ max start until
      by front last answered asks =
          let again = (and_parts (are_in_time start sent.deadline (front ++ last ∷ []) (length (front ++ last ∷ []))) (all_again (front ++ last ∷ []))
          (and_parts (asks_again start sent.deadline (front ++ last ∷ [])) (nat_lt (attempt_after start (front ++ last ∷ [])) sent.deadline) asks).0).1
          in
          let soon = (asks_soon front last (last_is front last Starved answered asks) (last_again front last again)).1 in
          omega (arith, soon)

  -- what a sending comes to
  abbrev Ends : Outcome → ℕ → Type 0
  Ends outcome ended = (ended ≤ max start until) × ((is_delivered (Some outcome) ≡ true) ⊎ (n.deadline ≤ min (ended + 60_000) until))

  ends_last : (us : List Response) (t : Response) (outcome : Outcome) → is_starved outcome ≡ false → AreAnswered (us ++ t ∷ [])
      → HasOutcome start sent.deadline (us ++ t ∷ []) outcome → Ends outcome (end_after start (us ++ t ∷ []))
  ends_last us t outcome fed answered has = (ends, by outcome fed has)
    where
      last : IsLast us t
      last = last_is us t outcome answered has

      is : end_after start (us ++ t ∷ []) ≡ end_of (attempt_after start us) t.ended
      is = end_after-push start us t

      ends : end_after start (us ++ t ∷ []) ≤ max start until
      ends = from last.was
        where
          from : Was t (attempt_after start us) → end_after start (us ++ t ∷ []) ≤ max start until
          from (inl now) =
              let soon = due_soon us last.answered last.asks in
              let at_once : t.ended ≡ attempt_after start us = ap (λ (s : Sent). s.ended) now in
              omega (arith, is, soon, at_once)
          from (inr slow) =
              let before : attempt_after start us < x = slow.0 in
              let come : t.ended ≤ attempt_after start us + d = slow.1 in
              omega (arith, is, before, come)

      refused : is_never t.answer ≡ true → Was t (attempt_after start us) → ⊥
      refused never (inl now) = not-never t.answer (ap (λ (s : Sent). s.answer) now) never
      refused never (inr slow) = false≢true (sym slow.2 ∙ never)

      by : (o : Outcome) → is_starved o ≡ false → HasOutcome start sent.deadline (us ++ t ∷ []) o
          → (is_delivered (Some o) ≡ true) ⊎ (n.deadline ≤ min (end_after start (us ++ t ∷ []) + 60_000) until)
      by Delivered fed has = inl refl
      by Refused fed has =
          absurd (refused (last_never us t (and_parts (are_in_time start sent.deadline (us ++ t ∷ []) (length (us ++ t ∷ []))) (ends_with is_never (us ++ t ∷ [])) has).1) last.was)
      by Expired fed has =
          let parts = and_parts (asks_again start sent.deadline (us ++ t ∷ [])) (nat_le sent.deadline (attempt_after start (us ++ t ∷ []))) has in
          let again = (and_parts (are_in_time start sent.deadline (us ++ t ∷ []) (length (us ++ t ∷ []))) (all_again (us ++ t ∷ [])) parts.0).1 in
          let soon = asks_soon us t last (last_again us t again) in
          let late : sent.deadline ≤ attempt_after start (us ++ t ∷ []) = leb-true sent.deadline (attempt_after start (us ++ t ∷ [])) parts.1 in
          let stays : runs_past (attempt_after start (us ++ t ∷ [])) cut ≡ true = runs_sooner cut (attempt_after start (us ++ t ∷ [])) until (omega (arith, soon.1)) runs_until in
          let deadline : n.deadline ≤ attempt_after start (us ++ t ∷ []) = late_deadline cut (attempt_after start (us ++ t ∷ [])) n.deadline stays late in
          let next = attempt_after-push start us t in
          let most = wait_of-most (length us) in
          let sooner = soon.1 in
          inr (omega (arith, deadline, sooner, next, most, is))
      by Starved fed has = absurd (false≢true (sym fed))

  ends_of : (responses : List Response) (outcome : Outcome) → is_starved outcome ≡ false → AreAnswered responses → HasOutcome start sent.deadline responses outcome
      → Ends outcome (end_after start responses)
  ends_of [] Delivered fed answered has = absurd (false≢true has)
  ends_of [] Refused fed answered has = absurd (false≢true has)
  ends_of [] Expired fed answered has =
      let late : sent.deadline ≤ start = leb-true sent.deadline start has in
      let tried = early_tried cut start n.deadline (runs_sooner cut start (max start until) (omega arith) runs) early in
      absurd (omega (arith, late, tried))
  ends_of [] Starved fed answered has = absurd (false≢true (sym fed))
  ends_of (t ∷ ts) outcome fed answered has =
      let split = split_last t ts in
      subst (λ (l : List Response). Ends outcome (end_after start l)) (sym split.2)
      (ends_last split.0 split.1 outcome fed (subst AreAnswered split.2 answered) (subst (λ (l : List Response). HasOutcome start sent.deadline l outcome) split.2 has))

  report_ends : (report : Option Report) → IsOutcome answer cut start n report
      → (end_on start report ≤ max start until) × ((is_success report ≡ true) ⊎ (n.deadline ≤ min (end_on start report + 60_000) until))
  report_ends None is = (omega arith, inl refl)
  report_ends (Some r) is =
      let sending = is.1.0 in
      subst (λ (m : ℕ). (m ≤ max start until) × ((is_success (Some r) ≡ true) ⊎ (n.deadline ≤ min (m + 60_000) until))) (sym sending.end_is)
      (ends_of sending.responses r.outcome is.1.1 sending.answered sending.has)

pub sendings_come_through : SendingsComeThrough
sendings_come_through cut outages receiver x d at n report recovers_then runs early is =
    let ends = report_ends cut outages receiver x d at n recovers_then runs early report is in
    record { over = ends.0; delivered = ends.1 }
