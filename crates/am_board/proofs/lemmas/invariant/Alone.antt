-- An element that alone passes a test is found at its index.
use Rattle.std.proofs.Common.{◌≡◌, ℕ, zero, suc, ◌<◌, Bool, true, true≢false, Some, None, List, [], ◌∷◌, length, map, get_or, refl, sym, ap, ◌∙◌, arith}
use Rattle.std.specs.Cmp.{IsEquivalence, on_equiv}
use Rattle.std.specs.List.{IsDistinct, position}
use Rattle.std.proofs.lemmas.List.Quantifiers.{position-Some}
use Rattle.am_model.proofs.lists.Alone.{IsAlone, alone-distinct, find-no_position, none-find}
use Rattle.am_model.proofs.lists.Distinct.{IsDistinct-unmap}
use Rattle.am_board.proofs.lemmas.invariant.DueKeys.{fails_at}

-- an element that alone passes is at its index
only : {X : Type 0} (test : X → Bool) (xs : List X) (i j : ℕ) (d : X) → IsAlone test xs i → j < length xs → test (get_or xs j d) ≡ true → j ≡ i
only test [] i j d alone within h = absurd alone
only test (x ∷ xs) zero zero d alone within h = refl
only test (x ∷ xs) zero (suc j) d alone within h = absurd (true≢false (sym h ∙ fails_at test xs j d (omega (arith, within)) alone.1))
only test (x ∷ xs) (suc i) zero d alone within h = absurd (true≢false (sym h ∙ alone.0))
only test (x ∷ xs) (suc i) (suc j) d alone within h = ap suc (only test xs i j d alone.1 (omega (arith, within)) h)

-- it is the first that passes
pub found_alone : {X : Type 0} (test : X → Bool) (xs : List X) (i : ℕ) (d : X) → IsAlone test xs i → i < length xs → test (get_or xs i d) ≡ true → position test xs ≡ Some i
found_alone test xs i d alone within passes =
    elim (position test xs) as (λ o. position test xs ≡ o → o ≡ Some i) [
      | None ↦ λ e. absurd (true≢false (sym passes ∙ fails_at test xs i d within (none-find test xs (find-no_position test xs e))))
      | Some j ↦ λ e.
          let h = position-Some test xs j d e in
          ap (λ k. Some k) (only test xs i j d alone h.0 h.1)
    ] refl

-- a value that has a key and is at an index, where no two values have one key
pub found_value : {X K : Type 0} (like : K → K → Bool) → IsEquivalence like → (key : X → K) (k : K) (xs : List X) (i : ℕ) (x : X) → IsDistinct like (map key xs) → i < length xs → x ≡ get_or xs i x → like k (key x) ≡ true → position (λ y. like k (key y)) xs ≡ Some i
found_value like laws key k xs i x distinct within at is =
    let passes : like k (key (get_or xs i x)) ≡ true = ap (λ y. like k (key y)) (sym at) ∙ is in
    let apart = IsDistinct-unmap key like xs distinct in
    let alone : IsAlone (λ y. like k (key y)) xs i = alone-distinct (λ y z. like (key y) (key z)) (on_equiv key laws) (λ y. like k (key y)) xs i x within apart (λ y. laws.congr k (key (get_or xs i x)) (key y) passes) in
    found_alone (λ y. like k (key y)) xs i x alone within passes
