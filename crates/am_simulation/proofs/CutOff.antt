-- Sendings end by the cut.
use Rattle.std.proofs.Common.{◌≡◌, ℕ, ◌+◌, ◌<◌, ◌≤◌, min, max, Bool, true, false, nat_lt, IfSome, All, List, [], ◌∷◌, ◌++◌, Option, Some, None, length, map, refl, sym, ap, ◌∙◌, subst, arith, if◌then◌else◌}
use Rattle.std.proofs.lemmas.Bool.{and_parts}
use Rattle.std.proofs.lemmas.Bool.Decides.{nat_tests}
use Rattle.std.proofs.lemmas.List.{map-append}
use Rattle.std.proofs.lemmas.List.Elements.{All-head}
use Rattle.am_model.specs.Notice.{NoticeData}
use Rattle.am_model.specs.declared.notice.Report.{Report}
use Rattle.am_retry.proofs.Fronts.{end_after-push, has_front}
use Rattle.am_retry.proofs.Tries.{one_more_try}
use Rattle.am_retry.specs.Attempts.{Response, Try, attempt_after, end_after, end_of, tries_of}
use Rattle.am_retry.specs.Outcome.{HasOutcome, asks_again}
use Rattle.am_retry.specs.declared.outcome.Answer.TheVariants.{Never}
use Rattle.am_retry.specs.declared.outcome.Outcome.{Outcome}
use Rattle.am_retry.specs.declared.outcome.Outcome.TheVariants.{Starved}
use Rattle.am_pool.proofs.Determined.{all_behind}
use Rattle.am_pool.specs.Sendings.{IsAnsweredBy, end_on}
use Rattle.am_pool.specs.Tries.{all_tried_for, tried_for}
use Rattle.am_pool.specs.declared.courier.Sent.{Sent}
use Rattle.am_simulation.specs.Answers.{IsOutcome, answer_of, cut_short, tried_by}
use Rattle.am_simulation.specs.Laws.{SendingsEndByCut}
use Rattle.am_terms.specs.declared.rehearsal.Outage.{Outage}

-- an attempt that is cut short ends by the cut, or at once
cut_ends : (cut at : ℕ) (sent : Sent) → (cut_short (Some cut) at sent).ended ≤ max at cut
cut_ends cut at sent = by (nat_lt cut sent.ended) refl
  where
    by : (late : Bool) → nat_lt cut sent.ended ≡ late → (let s : Sent = if late then record { answer = Never; ended = max at cut } else sent in s.ended) ≤ max at cut
    by true is = omega arith
    by false is = grind (arith, nat_tests, is)

-- a list that isn't empty ends with an item
split_last : {X : Type 0} (x : X) (xs : List X) → (front : List X) × (last : X) × ((x ∷ xs) ≡ front ++ last ∷ [])
split_last x [] = ([], x, refl)
split_last x (y ∷ ys) =
    let later = split_last y ys in
    (x ∷ later.0, later.1, ap (λ l. x ∷ l) later.2)

module _ (cut : ℕ) (outages : List Outage) (receiver : List ℕ) (start : ℕ) (n : NoticeData) where
  abbrev answer : ℕ → ℕ → ℕ → ℕ → Sent
  answer = answer_of (Some cut) outages receiver

  -- the notice as it is sent
  abbrev sent : NoticeData
  sent = tried_by (Some cut) n

  abbrev AreAnswered : List Response → Type 0
  AreAnswered responses = All (IsAnsweredBy answer) (all_tried_for sent (tries_of start responses))

  -- where an attempt was made, the last one ends by the cut
  last_ends : (us : List Response) (t : Response) (outcome : Outcome) → AreAnswered (us ++ t ∷ []) → HasOutcome start sent.deadline (us ++ t ∷ []) outcome
      → end_after start (us ++ t ∷ []) ≤ cut
  last_ends us t outcome answered has =
      let at = attempt_after start us in
      let last : Try = record { attempt = length us + 1; at = at; answer = t.answer; ended = t.ended } in
      let tries : all_tried_for sent (tries_of start (us ++ t ∷ [])) ≡ all_tried_for sent (tries_of start us) ++ tried_for sent last ∷ [] =
      ap (map (tried_for sent)) (one_more_try start us t) ∙ map-append (tried_for sent) (tries_of start us) (last ∷ [])
      in
      let here : IsAnsweredBy answer (tried_for sent last) =
      All-head (IsAnsweredBy answer) (tried_for sent last) []
      (all_behind (IsAnsweredBy answer) (all_tried_for sent (tries_of start us)) (tried_for sent last ∷ []) (subst (All (IsAnsweredBy answer)) tries answered))
      in
      let before : HasOutcome start sent.deadline us Starved = has_front start sent.deadline us t [] outcome has in
      let in_time : nat_lt at sent.deadline ≡ true = (and_parts (asks_again start sent.deadline us) (nat_lt at sent.deadline) before).1 in
      let sooner : at < min n.deadline cut = grind (arith, nat_tests, in_time) in
      let ends : t.ended ≤ max at cut =
      subst (λ (m : ℕ). m ≤ max at cut) (sym (ap (λ (s : Sent). s.ended) here)) (cut_ends cut at _)
      in
      let is : end_after start (us ++ t ∷ []) ≡ end_of at t.ended = end_after-push start us t in
      omega (arith, is, sooner, ends)

  -- a sending ends by the cut, or at once
  sending_ends : (responses : List Response) (outcome : Outcome) → AreAnswered responses → HasOutcome start sent.deadline responses outcome
      → (end_after start responses ≤ max start cut) × (0 < length responses → end_after start responses ≤ cut)
  sending_ends [] outcome answered has = (omega arith, λ some. absurd (omega (arith, some)))
  sending_ends (r ∷ rs) outcome answered has =
      let split = split_last r rs in
      let ends : end_after start (r ∷ rs) ≤ cut =
      subst (λ (l : List Response). end_after start l ≤ cut) (sym split.2)
      (last_ends split.0 split.1 outcome (subst AreAnswered split.2 answered) (subst (λ (l : List Response). HasOutcome start sent.deadline l outcome) split.2 has))
      in
      (omega (arith, ends), λ some. ends)

  report_ends : (report : Option Report) → IsOutcome answer (Some cut) start n report
      → (end_on start report ≤ max start cut) × IfSome report (λ r. 0 < r.attempts → r.ended ≤ cut)
  report_ends None is = (omega arith, tt)
  report_ends (Some r) is =
      let sending = is.1.0 in
      let ends = sending_ends sending.responses r.outcome sending.answered sending.has in (
        subst (λ (m : ℕ). m ≤ max start cut) (sym sending.end_is) ends.0,
        λ some. subst (λ (m : ℕ). m ≤ cut) (sym sending.end_is) (ends.1 (subst (λ (m : ℕ). 0 < m) sending.attempts_are some)),
      )

pub sendings_end : SendingsEndByCut
sendings_end cut outages receiver at index n e is =
    let ends = report_ends cut outages receiver at n e.report is.2 in
    (subst (λ (m : ℕ). m ≤ max at cut) (sym is.1) ends.0, ends.1)
