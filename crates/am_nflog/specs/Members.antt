-- Lists of members that represent sets.
use Rattle.std.specs.Prelude.{◌≡◌, Bool, true, false, ◌&&◌, List, [], ◌∷◌}
use Rattle.std.specs.List.{list_all, list_any}
use Rattle.std.specs.Ordering.{is_lt}
use Rattle.std.specs.declared.cmp.Ordering.{Ordering}

-- there is no member
abbrev pub is_empty : {N : Type 0} → List N → Bool
is_empty [] = true
is_empty (x ∷ xs) = false

-- x is a member
abbrev pub is_member : {N : Type 0} → (N → N → Bool) → N → List N → Bool
is_member eq x xs = list_any (eq x) xs

-- each member of xs is one of ys
abbrev pub is_subset : {N : Type 0} → (N → N → Bool) → List N → List N → Bool
is_subset eq xs ys = list_all (λ x. is_member eq x ys) xs

-- the two have the same members
abbrev pub AreSameSet : {N : Type 0} → (N → N → Bool) → List N → List N → Type 0
AreSameSet {N} eq xs ys = (x : N) → is_member eq x xs ≡ is_member eq x ys

-- each member is below all that come after it
abbrev pub is_ascending : {N : Type 0} → (N → N → Ordering) → List N → Bool
is_ascending cmp [] = true
is_ascending cmp (x ∷ xs) = list_all (λ y. is_lt (cmp x y)) xs && is_ascending cmp xs
