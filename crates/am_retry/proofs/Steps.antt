-- One answer more: where the machine is after it, and that time goes by.
use Rattle.std.proofs.Common.{◌≡◌, ℕ, ◌+◌, ◌-◌, ◌*◌, ◌<◌, ◌≤◌, true, false, nat_lt, if◌then◌else◌, List, [], ◌∷◌, ◌++◌, length, refl, sym, ap, ◌∙◌, subst, arith}
use Rattle.std.proofs.lemmas.Bool.{and_parts, and_from, ltb-true, ltb-false, le-leb}
use Rattle.am_retry.specs.declared.outcome.Answer.{Answer}
use Rattle.am_retry.specs.declared.outcome.Answer.TheVariants.{Done, Again, Never}
use Rattle.am_retry.specs.declared.outcome.Outcome.{Outcome}
use Rattle.am_retry.specs.declared.outcome.Outcome.TheVariants.{Expired, Starved}
use Rattle.am_retry.specs.declared.retry.Step.{Step}
use Rattle.am_retry.specs.declared.retry.Step.TheVariants.{Attempt, Over}
use Rattle.am_retry.specs.Attempts.{Response, wait_of, end_of, attempt_after}
use Rattle.am_retry.specs.Outcome.{is_done, is_never, all_again, are_in_time, asks_again, HasOutcome}
use Rattle.am_retry.specs.Progress.{Progress, due, started, step_after, taken_at, taken_by, answered, StepIsOf, IsAfterResponses, time_left_at, time_left, IsDue}
use Rattle.am_retry.proofs.Waits.{wait_of-least}
use Rattle.am_retry.proofs.Fronts.{length-push, attempt_at-append, are_in_time-append, attempt_after-push, end_after-push, ends_with-push, all_again-push}

-- an attempt after answers that let one follow is due or too late
pub due_is : (start deadline : ℕ) (responses : List Response) (at : ℕ) → asks_again start deadline responses ≡ true → at ≡ attempt_after start responses → StepIsOf start deadline responses (due at deadline)
due_is start deadline responses at may same =
    elim (nat_lt at deadline) as (λ b. nat_lt at deadline ≡ b → StepIsOf start deadline responses (if b then Attempt at else Over Expired)) [
      | true ↦ λ early. (and_from _ _ may (ap (λ (a : ℕ). nat_lt a deadline) (sym same) ∙ early), same)
      | false ↦ λ late.
          let after : deadline ≤ at = ltb-false at deadline late in
          (and_from _ _ may (le-leb deadline (attempt_after start responses) (omega arith)), λ q. cc)
    ] refl

pub holds_started : (start deadline : ℕ) → IsAfterResponses start deadline [] (started start deadline)
holds_started start deadline = record { until = refl; attempts = refl; ended = refl; step = due_is start deadline [] start refl refl }

-- the attempt that was due is in time, and so all are
in_time-push : (start deadline : ℕ) (responses : List Response) (t : Response) → HasOutcome start deadline responses Starved → are_in_time start deadline (responses ++ t ∷ []) (length (responses ++ t ∷ [])) ≡ true
in_time-push start deadline responses t open_ =
    ap (λ (n : ℕ). are_in_time start deadline (responses ++ t ∷ []) n) (length-push responses t)
    ∙ and_from _ _
    (are_in_time-append start deadline responses (t ∷ []) (length responses) (omega arith) ∙ (and_parts _ _ (and_parts _ _ open_).0).0)
    (ap (λ (a : ℕ). nat_lt a deadline) (attempt_at-append start responses (t ∷ []) (length responses) (omega arith)) ∙ (and_parts _ _ open_).1)

again_so_far : (start deadline : ℕ) (responses : List Response) → HasOutcome start deadline responses Starved → all_again responses ≡ true
again_so_far start deadline responses open_ = (and_parts _ _ (and_parts _ _ open_).0).1

-- what the answers and one more lead to
step_more : (start deadline : ℕ) (responses : List Response) (answer : Answer) (ended wait : ℕ) → wait ≡ wait_of (length responses) → HasOutcome start deadline responses Starved → StepIsOf start deadline (responses ++ record { answer = answer; ended = ended } ∷ []) (step_after answer (end_of (attempt_after start responses) ended) wait deadline)
step_more start deadline responses Done ended wait same open_ =
    (and_from _ _ (in_time-push start deadline responses _ open_) (ends_with-push is_done responses _ (again_so_far start deadline responses open_) refl), λ q. cc)
step_more start deadline responses Never ended wait same open_ =
    (and_from _ _ (in_time-push start deadline responses _ open_) (ends_with-push is_never responses _ (again_so_far start deadline responses open_) refl), λ q. cc)
step_more start deadline responses Again ended wait same open_ =
    let t : Response = record { answer = Again; ended = ended } in
    due_is start deadline (responses ++ t ∷ []) _
    (and_from _ _ (in_time-push start deadline responses t open_) (all_again-push responses t (again_so_far start deadline responses open_) refl))
    (ap (λ (w : ℕ). end_of (attempt_after start responses) ended + w) same ∙ sym (attempt_after-push start responses t))

-- where the machine is after an answer to the attempt that is due
pub holds_taken : (start deadline attempts ended at : ℕ) (responses : List Response) (t : Response) → IsAfterResponses start deadline responses (record { deadline = deadline; attempts = attempts; ended = ended; step = Attempt at }) → IsAfterResponses start deadline (responses ++ t ∷ []) (taken_at at (record { deadline = deadline; attempts = attempts; ended = ended; step = Attempt at }) t.answer t.ended)
holds_taken start deadline attempts ended at responses t holds =
    let time : at ≡ attempt_after start responses = holds.step.1 in
    let count : attempts ≡ length responses = holds.attempts in
    let more = length-push responses t in
    record {
      until = refl;
      attempts = omega arith;
      ended = ap (λ (a : ℕ). end_of a t.ended) time ∙ sym (end_after-push start responses t);
      step = subst (λ (a : ℕ). StepIsOf start deadline (responses ++ t ∷ []) (step_after t.answer (end_of a t.ended) (wait_of attempts) deadline)) (sym time) (step_more start deadline responses t.answer t.ended (wait_of attempts) (ap wait_of count) holds.step.0);
    }

-- the same, where it is said that an attempt is due
pub holds_more : (start deadline at : ℕ) (responses : List Response) (p : Progress) (answer : Answer) (ended : ℕ) → p.step ≡ Attempt at → IsAfterResponses start deadline responses p → IsAfterResponses start deadline (responses ++ record { answer = answer; ended = ended } ∷ []) (answered p answer ended)
holds_more start deadline at responses p answer ended is holds =
    let t : Response = record { answer = answer; ended = ended } in
    let same : IsAfterResponses start p.deadline responses p = subst (λ (d : ℕ). IsAfterResponses start d responses p) (sym holds.until) holds in
    let was : IsAfterResponses start p.deadline responses (record { deadline = p.deadline; attempts = p.attempts; ended = p.ended; step = Attempt at }) =
    subst (λ (s : Step). IsAfterResponses start p.deadline responses (record { deadline = p.deadline; attempts = p.attempts; ended = p.ended; step = s })) is same in
    let after : IsAfterResponses start p.deadline (responses ++ t ∷ []) (answered p answer ended) =
    subst (λ (s : Step). IsAfterResponses start p.deadline (responses ++ t ∷ []) (taken_by s p answer ended)) (sym is) (holds_taken start p.deadline p.attempts p.ended at responses t was) in
    subst (λ (d : ℕ). IsAfterResponses start d (responses ++ t ∷ []) (answered p answer ended)) holds.until after

-- where none is due, nothing changes
pub answered-over : (p : Progress) (o : Outcome) (answer : Answer) (ended : ℕ) → p.step ≡ Over o → answered p answer ended ≡ p
answered-over p o answer ended is = ap (λ (s : Step). taken_by s p answer ended) is

due_later : (n at deadline : ℕ) → at < n → at < deadline → time_left_at (due n deadline) deadline < deadline - at
due_later n at deadline later before =
    elim (nat_lt n deadline) as (λ b. nat_lt n deadline ≡ b → time_left_at (if b then Attempt n else Over Expired) deadline < deadline - at) [
      | true ↦ λ early. let soon : n < deadline = ltb-true n deadline early in omega arith
      | false ↦ λ late. omega arith
    ] refl

left_after : (answer : Answer) (ended wait at deadline : ℕ) → at < ended + wait → at < deadline → time_left_at (step_after answer ended wait deadline) deadline < deadline - at
left_after Done ended wait at deadline later before = omega arith
left_after Never ended wait at deadline later before = omega arith
left_after Again ended wait at deadline later before = due_later (ended + wait) at deadline later before

-- less time is left after an answer
pub time_left-answered : (p : Progress) (at : ℕ) (answer : Answer) (ended : ℕ) → p.step ≡ Attempt at → at < p.deadline → time_left (answered p answer ended) < time_left p
time_left-answered p at answer ended is before =
    let least = wait_of-least p.attempts in
    let now : time_left (taken_by (Attempt at) p answer ended) < time_left_at (Attempt at) p.deadline =
    left_after answer (end_of at ended) (wait_of p.attempts) at p.deadline (omega arith) before in
    subst (λ (s : Step). time_left (taken_by s p answer ended) < time_left_at s p.deadline) (sym is) now

-- an attempt that is due after another one is later by a wait
pub next_is_due : (n deadline attempts : ℕ) → 500 * attempts ≤ n → IsDue (due n deadline) deadline attempts
next_is_due n deadline attempts enough =
    elim (nat_lt n deadline) as (λ b. nat_lt n deadline ≡ b → IsDue (if b then Attempt n else Over Expired) deadline attempts) [
      | true ↦ λ early. (ltb-true n deadline early, enough)
      | false ↦ λ late. tt
    ] refl
