-- The open flush of a number is the only one.
use Rattle.std.proofs.Common.{◌≡◌, ℕ, ◌<◌, ◌==◌, Bool, Some, List, length, map, get_or, sym, ap, ◌∙◌}
use Rattle.std.specs.Cmp.{nat_eq_equiv, on_equiv}
use Rattle.std.specs.List.{IsDistinct, position}
use Rattle.am_model.specs.Laws.{same_number}
use Rattle.am_model.proofs.lists.Alone.{IsAlone, alone-distinct}
use Rattle.am_model.proofs.lists.Distinct.{IsDistinct-unmap}
use Rattle.am_board.specs.Refinement.{flush_state}
use Rattle.am_board.specs.declared.flush.OpenFlush.{OpenFlush}
use Rattle.am_board.proofs.lemmas.invariant.Alone.{found_alone}

-- it is the first of its number
pub numbered_at : (fs : List OpenFlush) (i n : ℕ) (d : OpenFlush) → IsDistinct same_number (map flush_state fs) → i < length fs → (get_or fs i d).number ≡ n → position (λ f. f.number == n) fs ≡ Some i
numbered_at fs i n d distinct within is =
    let test : OpenFlush → Bool = λ f. f.number == n in
    let apart = IsDistinct-unmap flush_state same_number fs distinct in
    let like : (y : OpenFlush) → test y ≡ ((get_or fs i d).number == y.number) = λ y. nat_eq_equiv.symm y.number n ∙ ap (λ m. m == y.number) (sym is) in
    let alone : IsAlone test fs i = alone-distinct (λ (f g : OpenFlush). f.number == g.number) (on_equiv (λ (f : OpenFlush). f.number) nat_eq_equiv) test fs i d within apart like in
    found_alone test fs i d alone within (ap (λ m. m == n) is ∙ nat_eq_equiv.refl n)
