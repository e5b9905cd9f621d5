-- Rows of pieces.
use Rattle.std.proofs.Common.{◌≡◌, ℕ, ◌<◌, ◌≤◌, true, List, [], ◌∷◌, ◌++◌, refl, sym, ◌∙◌, inl, inr, arith}
use Rattle.std.specs.Prelude.{◌&&◌, ◌==◌, nat_le, nat_lt}
use Rattle.std.specs.List.{list_all, list_any}
use Rattle.std.proofs.lemmas.Bool.{and_parts, and_from, or_left, or_right, eqb-true, eq-eqb, le-leb, lt-ltb, cases_lt}
use Rattle.am_hours.specs.declared.piece.Piece.{Piece}
use Rattle.am_hours.specs.Pieces.{are_in_row, is_in, is_sound}

-- the parts of a row
pub row-parts : (from : ℕ) (p : Piece) (pieces : List Piece) (to : ℕ) → are_in_row from (p ∷ pieces) to ≡ true
    → (p.from ≡ from) × (is_sound p ≡ true) × (are_in_row p.to pieces to ≡ true)
row-parts from p pieces to h =
    let q = and_parts ((p.from == from) && is_sound p) (are_in_row p.to pieces to) h in
    let r = and_parts (p.from == from) (is_sound p) q.0 in
    (eqb-true p.from from r.0, r.1, q.1)

pub row-made : (from : ℕ) (p : Piece) (pieces : List Piece) (to : ℕ) → p.from ≡ from → is_sound p ≡ true
    → are_in_row p.to pieces to ≡ true → are_in_row from (p ∷ pieces) to ≡ true
row-made from p pieces to e s h =
    and_from ((p.from == from) && is_sound p) (are_in_row p.to pieces to)
    (and_from (p.from == from) (is_sound p) (eq-eqb p.from from e) s) h

-- a row, and a piece more at its end
pub row-more : (from : ℕ) (pieces : List Piece) (at : ℕ) (p : Piece) → are_in_row from pieces at ≡ true → p.from ≡ at
    → is_sound p ≡ true → are_in_row from (pieces ++ p ∷ []) p.to ≡ true
row-more from [] at p h e s = row-made from p [] p.to (e ∙ sym (eqb-true from at h)) s (eq-eqb p.to p.to refl)
row-more from (x ∷ pieces) at p h e s =
    let q = row-parts from x pieces at h in
    row-made from x (pieces ++ p ∷ []) p.to q.0 q.1 (row-more x.to pieces at p q.2 e s)

-- the pieces of a row are sound
pub row-sound : (from : ℕ) (pieces : List Piece) (to : ℕ) → are_in_row from pieces to ≡ true → list_all is_sound pieces ≡ true
row-sound from [] to h = refl
row-sound from (p ∷ pieces) to h =
    let q = row-parts from p pieces to h in
    and_from (is_sound p) (list_all is_sound pieces) q.1 (row-sound p.to pieces to q.2)

-- a row holds each time between
pub row-holds : (pieces : List Piece) (from to t : ℕ) → are_in_row from pieces to ≡ true → from ≤ t → t < to
    → list_any (λ p. is_in p t) pieces ≡ true
row-holds [] from to t h low high = absurd (let e = eqb-true from to h in omega (arith, e))
row-holds (p ∷ pieces) from to t h low high =
    let q = row-parts from p pieces to h in
    elim (cases_lt t p.to) [
      | inl before ↦
          or_left (is_in p t) (list_any (λ x. is_in x t) pieces)
          (and_from (nat_le p.from t) (nat_lt t p.to) (le-leb p.from t (omega (arith, q.0))) (lt-ltb t p.to before))
      | inr behind ↦
          or_right (is_in p t) (list_any (λ x. is_in x t) pieces) (row-holds pieces p.to to t q.2 behind high)
    ]
