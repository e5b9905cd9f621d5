-- What the first answers of a list say doesn't depend on those that follow.
use Rattle.std.proofs.Common.{◌≡◌, ℕ, zero, suc, ◌+◌, ◌<◌, ◌≤◌, Bool, true, nat_lt, List, [], ◌∷◌, ◌++◌, length, map, get_or, refl, sym, ap, ◌∙◌, subst, arith, inl, inr}
use Rattle.std.proofs.Math.ListN.{get_or-append}
use Rattle.std.proofs.Math.Seq.{get_or-append_seam}
use Rattle.std.proofs.lemmas.List.{map-append, length-map, length-append}
use Rattle.std.proofs.lemmas.Bool.{and_parts, and_from, false≢true, cases_lt, ltb-true, leb-true}
use Rattle.am_retry.specs.declared.outcome.Answer.{Answer}
use Rattle.am_retry.specs.declared.outcome.Answer.TheVariants.{Done, Again, Never}
use Rattle.am_retry.specs.declared.outcome.Outcome.{Outcome}
use Rattle.am_retry.specs.declared.outcome.Outcome.TheVariants.{Delivered, Refused, Expired, Starved}
use Rattle.am_retry.specs.Attempts.{Response, handed_in, attempt_at, attempt_after, end_at, end_after, end_of, wait_of}
use Rattle.am_retry.specs.Outcome.{is_done, is_again, is_never, all_again, ends_with, are_in_time, asks_again, is_settled, HasOutcome}

pub handed_in-append : (responses more : List Response) (j : ℕ) → j < length responses → handed_in (responses ++ more) j ≡ handed_in responses j
handed_in-append responses more j h =
    ap (λ (xs : List ℕ). get_or xs j 0) (map-append (λ (t : Response). t.ended) responses more)
    ∙ get_or-append (map (λ (t : Response). t.ended) responses) (map (λ (t : Response). t.ended) more) 0 j (omega (arith, length-map responses (λ (t : Response). t.ended)))

pub handed_in-push : (responses : List Response) (t : Response) → handed_in (responses ++ t ∷ []) (length responses) ≡ t.ended
handed_in-push responses t =
    ap (λ (xs : List ℕ). get_or xs (length responses) 0) (map-append (λ (t : Response). t.ended) responses (t ∷ []))
    ∙ ap (λ (n : ℕ). get_or (map (λ (t : Response). t.ended) responses ++ t.ended ∷ []) n 0) (sym (length-map responses (λ (t : Response). t.ended)))
    ∙ get_or-append_seam (map (λ (t : Response). t.ended) responses) t.ended [] 0

pub attempt_at-append : (start : ℕ) (responses more : List Response) (j : ℕ) → j ≤ length responses → attempt_at start (responses ++ more) j ≡ attempt_at start responses j
attempt_at-append start responses more zero h = refl
attempt_at-append start responses more (suc j) h =
    let before = attempt_at-append start responses more j (omega arith) in
    let handed = handed_in-append responses more j (omega arith) in
    cc

pub end_at-append : (start : ℕ) (responses more : List Response) (j : ℕ) → j ≤ length responses → end_at start (responses ++ more) j ≡ end_at start responses j
end_at-append start responses more zero h = refl
end_at-append start responses more (suc j) h =
    let before = attempt_at-append start responses more j (omega arith) in
    let handed = handed_in-append responses more j (omega arith) in
    cc

pub are_in_time-append : (start deadline : ℕ) (responses more : List Response) (j : ℕ) → j ≤ length responses → are_in_time start deadline (responses ++ more) j ≡ are_in_time start deadline responses j
are_in_time-append start deadline responses more zero h = refl
are_in_time-append start deadline responses more (suc j) h =
    let before = are_in_time-append start deadline responses more j (omega arith) in
    let time = attempt_at-append start responses more j (omega arith) in
    cc

pub length-push : (responses : List Response) (t : Response) → length (responses ++ t ∷ []) ≡ suc (length responses)
length-push responses t = omega (arith, length-append responses (t ∷ []))

-- the attempt after one more answer
pub attempt_after-push : (start : ℕ) (responses : List Response) (t : Response) → attempt_after start (responses ++ t ∷ []) ≡ end_of (attempt_after start responses) t.ended + wait_of (length responses)
attempt_after-push start responses t =
    let before = attempt_at-append start responses (t ∷ []) (length responses) (omega arith) in
    let handed = handed_in-push responses t in
    let more = ap (λ (n : ℕ). attempt_at start (responses ++ t ∷ []) n) (length-push responses t) in
    cc

pub end_after-push : (start : ℕ) (responses : List Response) (t : Response) → end_after start (responses ++ t ∷ []) ≡ end_of (attempt_after start responses) t.ended
end_after-push start responses t =
    let before = attempt_at-append start responses (t ∷ []) (length responses) (omega arith) in
    let handed = handed_in-push responses t in
    let more = ap (λ (n : ℕ). end_at start (responses ++ t ∷ []) n) (length-push responses t) in
    cc

-- every answer but the last is Again
pub ends_with-push : (test : Answer → Bool) (responses : List Response) (t : Response) → all_again responses ≡ true → test t.answer ≡ true → ends_with test (responses ++ t ∷ []) ≡ true
ends_with-push test [] t again last = last
ends_with-push test (u ∷ []) t again last = and_from _ _ (and_parts _ _ again).0 last
ends_with-push test (u ∷ v ∷ responses) t again last = and_from _ _ (and_parts _ _ again).0 (ends_with-push test (v ∷ responses) t (and_parts _ _ again).1 last)

pub all_again-push : (responses : List Response) (t : Response) → all_again responses ≡ true → is_again t.answer ≡ true → all_again (responses ++ t ∷ []) ≡ true
all_again-push [] t again last = and_from _ _ last refl
all_again-push (u ∷ responses) t again last = and_from _ _ (and_parts _ _ again).0 (all_again-push responses t (and_parts _ _ again).1 last)

pub all_again-front : (responses : List Response) (more : List Response) → all_again (responses ++ more) ≡ true → all_again responses ≡ true
all_again-front [] more again = refl
all_again-front (u ∷ responses) more again = and_from _ _ (and_parts _ _ again).0 (all_again-front responses more (and_parts _ _ again).1)

pub ends_with-front : (test : Answer → Bool) (responses : List Response) (u : Response) (more : List Response) → ends_with test (responses ++ u ∷ more) ≡ true → all_again responses ≡ true
ends_with-front test [] u more ends = refl
ends_with-front test (t ∷ []) u more ends = and_from _ _ (and_parts _ _ ends).0 refl
ends_with-front test (t ∷ v ∷ responses) u more ends = and_from _ _ (and_parts _ _ ends).0 (ends_with-front test (v ∷ responses) u more (and_parts _ _ ends).1)

-- what is in time up to an index is so before it, and at each index before it
pub in_time_before : (start deadline : ℕ) (responses : List Response) (j k : ℕ) → j ≤ k → are_in_time start deadline responses k ≡ true → are_in_time start deadline responses j ≡ true
in_time_before start deadline responses zero k le h = refl
in_time_before start deadline responses (suc j) zero le h = absurd (omega arith)
in_time_before start deadline responses (suc j) (suc k) le h =
    elim (cases_lt j k) [
      | inl lt ↦ in_time_before start deadline responses (suc j) k (omega arith) (and_parts _ _ h).0
      | inr ge ↦ let same : suc k ≡ suc j = omega arith in subst (λ (n : ℕ). are_in_time start deadline responses n ≡ true) same h
    ]

-- where the answers go on, each front of them let another attempt follow
pub open_front : (start deadline : ℕ) (responses : List Response) (u : Response) (more : List Response) → are_in_time start deadline (responses ++ u ∷ more) (length (responses ++ u ∷ more)) ≡ true → all_again responses ≡ true → HasOutcome start deadline responses Starved
open_front start deadline responses u more in_time again =
    let longer = length-append responses (u ∷ more) in
    let up_to = in_time_before start deadline (responses ++ u ∷ more) (suc (length responses)) (length (responses ++ u ∷ more)) (omega arith) in_time in
    let parts = and_parts _ _ up_to in
    and_from _ _
    (and_from _ _ (sym (are_in_time-append start deadline responses (u ∷ more) (length responses) (omega arith)) ∙ parts.0) again)
    (ap (λ (a : ℕ). nat_lt a deadline) (sym (attempt_at-append start responses (u ∷ more) (length responses) (omega arith))) ∙ parts.1)

pub has_front : (start deadline : ℕ) (responses : List Response) (u : Response) (more : List Response) (o : Outcome) → HasOutcome start deadline (responses ++ u ∷ more) o → HasOutcome start deadline responses Starved
has_front start deadline responses u more Delivered h =
    open_front start deadline responses u more (and_parts _ _ h).0 (ends_with-front is_done responses u more (and_parts _ _ h).1)
has_front start deadline responses u more Refused h =
    open_front start deadline responses u more (and_parts _ _ h).0 (ends_with-front is_never responses u more (and_parts _ _ h).1)
has_front start deadline responses u more Expired h =
    let may = and_parts _ _ (and_parts _ _ h).0 in
    open_front start deadline responses u more may.0 (all_again-front responses (u ∷ more) may.1)
has_front start deadline responses u more Starved h =
    let may = and_parts _ _ (and_parts _ _ h).0 in
    open_front start deadline responses u more may.0 (all_again-front responses (u ∷ more) may.1)

-- two ends that no answer has
ends_both : (p q : Answer → Bool) (responses : List Response) → ((a : Answer) → p a ≡ true → q a ≡ true → ⊥) → ends_with p responses ≡ true → ends_with q responses ≡ true → ⊥
ends_both p q [] none one other = false≢true one
ends_both p q (t ∷ []) none one other = none t.answer one other
ends_both p q (t ∷ u ∷ responses) none one other = ends_both p q (u ∷ responses) none (and_parts _ _ one).1 (and_parts _ _ other).1

ends_again : (p : Answer → Bool) (responses : List Response) → ((a : Answer) → p a ≡ true → is_again a ≡ true → ⊥) → ends_with p responses ≡ true → all_again responses ≡ true → ⊥
ends_again p [] none one other = false≢true one
ends_again p (t ∷ []) none one other = none t.answer one (and_parts _ _ other).0
ends_again p (t ∷ u ∷ responses) none one other = ends_again p (u ∷ responses) none (and_parts _ _ one).1 (and_parts _ _ other).1

not_done_never : (a : Answer) → is_done a ≡ true → is_never a ≡ true → ⊥
not_done_never Done one other = false≢true other
not_done_never Again one other = false≢true one
not_done_never Never one other = false≢true one

not_done_again : (a : Answer) → is_done a ≡ true → is_again a ≡ true → ⊥
not_done_again Done one other = false≢true other
not_done_again Again one other = false≢true one
not_done_again Never one other = false≢true one

not_never_again : (a : Answer) → is_never a ≡ true → is_again a ≡ true → ⊥
not_never_again Done one other = false≢true one
not_never_again Again one other = false≢true one
not_never_again Never one other = false≢true other

done_and_never : (s d : ℕ) (responses : List Response) → is_settled is_done s d responses ≡ true → is_settled is_never s d responses ≡ true → ⊥
done_and_never s d responses one other = ends_both is_done is_never responses not_done_never (and_parts _ _ one).1 (and_parts _ _ other).1

done_and_again : (s d : ℕ) (responses : List Response) → is_settled is_done s d responses ≡ true → asks_again s d responses ≡ true → ⊥
done_and_again s d responses one other = ends_again is_done responses not_done_again (and_parts _ _ one).1 (and_parts _ _ other).1

never_and_again : (s d : ℕ) (responses : List Response) → is_settled is_never s d responses ≡ true → asks_again s d responses ≡ true → ⊥
never_and_again s d responses one other = ends_again is_never responses not_never_again (and_parts _ _ one).1 (and_parts _ _ other).1

early_and_late : (s d : ℕ) (responses : List Response) → HasOutcome s d responses Expired → HasOutcome s d responses Starved → ⊥
early_and_late s d responses one other =
    let late : d ≤ attempt_after s responses = leb-true _ _ (and_parts _ _ one).1 in
    let early : attempt_after s responses < d = ltb-true _ _ (and_parts _ _ other).1 in
    omega arith

-- no list of answers has two outcomes
pub never_both : (s d : ℕ) (responses : List Response) (one other : Outcome) → HasOutcome s d responses one → HasOutcome s d responses other → one ≡ other
never_both s d responses Delivered Delivered h k = refl
never_both s d responses Delivered Refused h k = absurd (done_and_never s d responses h k)
never_both s d responses Delivered Expired h k = absurd (done_and_again s d responses h (and_parts _ _ k).0)
never_both s d responses Delivered Starved h k = absurd (done_and_again s d responses h (and_parts _ _ k).0)
never_both s d responses Refused Delivered h k = absurd (done_and_never s d responses k h)
never_both s d responses Refused Refused h k = refl
never_both s d responses Refused Expired h k = absurd (never_and_again s d responses h (and_parts _ _ k).0)
never_both s d responses Refused Starved h k = absurd (never_and_again s d responses h (and_parts _ _ k).0)
never_both s d responses Expired Delivered h k = absurd (done_and_again s d responses k (and_parts _ _ h).0)
never_both s d responses Expired Refused h k = absurd (never_and_again s d responses k (and_parts _ _ h).0)
never_both s d responses Expired Expired h k = refl
never_both s d responses Expired Starved h k = absurd (early_and_late s d responses h k)
never_both s d responses Starved Delivered h k = absurd (done_and_again s d responses k (and_parts _ _ h).0)
never_both s d responses Starved Refused h k = absurd (never_and_again s d responses k (and_parts _ _ h).0)
never_both s d responses Starved Expired h k = absurd (early_and_late s d responses k h)
never_both s d responses Starved Starved h k = refl
