-- The outcomes after a record, by the place of the first finish.
use Rattle.std.proofs.Common.{◌≡◌, ◌∙◌, ◌≤◌, ◌+◌, ℕ, suc, Bool, true, false, List, [], ◌∷◌, Option, Some, None, refl, arith, drop, if◌then◌else◌}
use Rattle.std.specs.Prelude.{is_some, unwrap_or, zero}
use Rattle.am_retry.specs.declared.outcome.Outcome.{Outcome}
use Rattle.am_model.specs.declared.record.Record.{Record}
use Rattle.am_model.specs.Outcomes.{finished_with, outcomes_in}
use Rattle.am_timeline.specs.Finishes.{first_finish, is_finish_of}

-- what isn't there leaves the rest
rest_of : (o : Option (List (ℕ × Outcome))) (rest : List (ℕ × Outcome)) → is_some o ≡ false → unwrap_or o rest ≡ rest
rest_of None rest e = refl
rest_of (Some x) rest e = absurd (cc)

-- where no record finishes it, there are no outcomes
pub nowhere : (number place k : ℕ) (rs : List Record) → first_finish number place rs ≡ None → outcomes_in number (drop k rs) ≡ []
nowhere number place zero [] e = refl
nowhere number place (suc k) [] e = refl
nowhere number place zero (r ∷ rs) e = by (is_finish_of number r.call) refl e (λ f. nowhere number (place + 1) zero rs f)
  where
    by : (here : Bool) → is_finish_of number r.call ≡ here → (if here then Some place else first_finish number (place + 1) rs) ≡ None
        → (first_finish number (place + 1) rs ≡ None → outcomes_in number rs ≡ []) → outcomes_in number (r ∷ rs) ≡ []
    by true is e rest = absurd (cc)
    by false is e rest = rest_of (finished_with number r.call) (outcomes_in number rs) is ∙ rest e
nowhere number place (suc k) (r ∷ rs) e = by (is_finish_of number r.call) e (λ f. nowhere number (place + 1) k rs f)
  where
    by : (here : Bool) → (if here then Some place else first_finish number (place + 1) rs) ≡ None
        → (first_finish number (place + 1) rs ≡ None → outcomes_in number (drop k rs) ≡ []) → outcomes_in number (drop k rs) ≡ []
    by true e rest = absurd (cc)
    by false e rest = rest e

-- where a later record has the first finish, this one has none
later_finish : (number place m j : ℕ) (r : Record) (rs : List Record) → first_finish number place (r ∷ rs) ≡ Some j → j ≡ place + suc m
    → (is_finish_of number r.call ≡ false) × (first_finish number (place + 1) rs ≡ Some j)
later_finish number place m j r rs e at = by (is_finish_of number r.call) refl e
  where
    by : (here : Bool) → is_finish_of number r.call ≡ here → (if here then Some place else first_finish number (place + 1) rs) ≡ Some j
        → (is_finish_of number r.call ≡ false) × (first_finish number (place + 1) rs ≡ Some j)
    by true is e =
        let same : place ≡ j = cc in
        absurd (omega (arith, same, at))
    by false is e = (is, e)

-- nothing up to the first finish has outcomes
pub up_to : (number place k m j : ℕ) (rs : List Record) → first_finish number place rs ≡ Some j → j ≡ place + m → k ≤ m
    → outcomes_in number (drop k rs) ≡ outcomes_in number (drop m rs)
up_to number place k m j [] e at below = absurd (cc)
up_to number place zero zero j (r ∷ rs) e at below = refl
up_to number place (suc k) zero j (r ∷ rs) e at below = absurd (omega (arith, below))
up_to number place zero (suc m) j (r ∷ rs) e at below =
    let later = later_finish number place m j r rs e at in
    rest_of (finished_with number r.call) (outcomes_in number rs) later.0
    ∙ up_to number (place + 1) zero m j rs later.1 (omega (arith, at)) (omega arith)
up_to number place (suc k) (suc m) j (r ∷ rs) e at below =
    let later = later_finish number place m j r rs e at in
    up_to number (place + 1) k m j rs later.1 (omega (arith, at)) (omega (arith, below))
