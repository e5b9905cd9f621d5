-- The attempts that were made, one after another.
use Rattle.std.proofs.Common.{◌≡◌, ℕ, ◌+◌, ◌<◌, List, [], ◌∷◌, ◌++◌, length, map, refl, sym, ap, ◌∙◌, subst, arith}
use Rattle.std.specs.List.{enumerate_from}
use Rattle.std.proofs.lemmas.List.{map-append}
use Rattle.am_retry.specs.Attempts.{Response, Try, attempt_at, attempt_after, try_of, tries_of}
use Rattle.am_retry.specs.declared.outcome.Answer.{Answer}
use Rattle.am_retry.specs.declared.retry.Step.{Step}
use Rattle.am_retry.specs.declared.retry.Step.TheVariants.{Attempt}
use Rattle.am_retry.specs.Progress.{Progress, StepIsOf, IsAfterResponses}
use Rattle.am_retry.specs.Laws.{OneMoreTry}
use Rattle.am_retry.proofs.Fronts.{attempt_at-append}

enumerate_from-push : (n : ℕ) (responses : List Response) (t : Response) → enumerate_from n (responses ++ t ∷ []) ≡ enumerate_from n responses ++ (n + length responses, t) ∷ []
enumerate_from-push n [] t = let e : n ≡ n + 0 = omega arith in ap (λ (k : ℕ). (k, t) ∷ []) e
enumerate_from-push n (u ∷ responses) t =
    let e : n + 1 + length responses ≡ n + length (u ∷ responses) = omega arith in
    ap (λ (l : List (ℕ × Response)). (n, u) ∷ l) (enumerate_from-push (n + 1) responses t ∙ ap (λ (k : ℕ). enumerate_from (n + 1) responses ++ (k, t) ∷ []) e)

-- lists whose attempts are made at the same times have the same tries
same_tries : (start : ℕ) (one other responses : List Response) (n : ℕ) → ((j : ℕ) → j < n + length responses → attempt_at start one j ≡ attempt_at start other j)
    → map (try_of start one) (enumerate_from n responses) ≡ map (try_of start other) (enumerate_from n responses)
same_tries start one other [] n same = refl
same_tries start one other (t ∷ responses) n same =
    ap (λ (a : ℕ). (record { attempt = n + 1; at = a; answer = t.answer; ended = t.ended }) ∷ map (try_of start one) (enumerate_from (n + 1) responses)) (same n (omega arith))
    ∙ ap (λ (l : List Try). try_of start other (n, t) ∷ l) (same_tries start one other responses (n + 1) (λ j h. same j (omega arith)))

pub one_more_try : OneMoreTry
one_more_try start responses t =
    let longer : List Response = responses ++ t ∷ [] in
    ap (map (try_of start longer)) (enumerate_from-push 0 responses t)
    ∙ map-append (try_of start longer) (enumerate_from 0 responses) ((0 + length responses, t) ∷ [])
    ∙ ap (λ (l : List Try). l ++ try_of start longer (0 + length responses, t) ∷ []) (same_tries start longer responses responses 0 (λ j h. attempt_at-append start responses (t ∷ []) j (omega arith)))
    ∙ (let e : 0 + length responses ≡ length responses = omega arith in ap (λ (k : ℕ). tries_of start responses ++ try_of start longer (k, t) ∷ []) e)
    ∙ ap (λ (a : ℕ). tries_of start responses ++ (record { attempt = length responses + 1; at = a; answer = t.answer; ended = t.ended }) ∷ []) (attempt_at-append start responses (t ∷ []) (length responses) (omega arith))

-- the same in the machine's terms: the number and the time of the attempt that was due
pub tries_more : (start deadline at : ℕ) (responses : List Response) (p : Progress) (answer : Answer) (ended : ℕ) → p.step ≡ Attempt at → IsAfterResponses start deadline responses p
    → tries_of start (responses ++ record { answer = answer; ended = ended } ∷ []) ≡ tries_of start responses ++ record { attempt = p.attempts + 1; at = at; answer = answer; ended = ended } ∷ []
tries_more start deadline at responses p answer ended is holds =
    let due : StepIsOf start deadline responses (Attempt at) = subst (λ (s : Step). StepIsOf start deadline responses s) is holds.step in
    one_more_try start responses (record { answer = answer; ended = ended })
    ∙ ap (λ (k : ℕ). tries_of start responses ++ (record { attempt = k + 1; at = attempt_after start responses; answer = answer; ended = ended }) ∷ []) (sym holds.attempts)
    ∙ ap (λ (a : ℕ). tries_of start responses ++ (record { attempt = p.attempts + 1; at = a; answer = answer; ended = ended }) ∷ []) (sym due.1)
