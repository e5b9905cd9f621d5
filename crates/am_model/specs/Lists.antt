-- Lists: operations on the lists of a state, which put, remove, change and order elements.
use Rattle.std.specs.Prelude.{Bool, not, List, [], ◌∷◌, map, filter, Option, Some, None, if◌then◌else◌}
use Rattle.std.specs.Ordering.{is_gt}
use Rattle.std.specs.declared.cmp.Ordering.{Ordering}

-- the element in place of the first one that it is like, or added at the end if it is like none
abbrev pub upsert : {X : Type 0} → (X → X → Bool) → X → List X → List X
upsert like x [] = x ∷ []
upsert like x (y ∷ ys) = if like x y then x ∷ ys else y ∷ upsert like x ys

-- the list without the elements that pass a test
abbrev pub without : {X : Type 0} → (X → Bool) → List X → List X
without test xs = filter (λ x. not (test x)) xs

-- the list, or none where there is something
abbrev pub unless : {W X : Type 0} → Option W → List X → List X
unless None xs = xs
unless (Some w) xs = []

-- the list with a change of each element that passes a test
abbrev pub changed_where : {X : Type 0} → (X → Bool) → (X → X) → List X → List X
changed_where test change xs = map (λ x. if test x then change x else x) xs

-- the element put before the first one that isn't below it
abbrev pub put_in_order : {X : Type 0} → (X → X → Ordering) → X → List X → List X
put_in_order cmp x [] = x ∷ []
put_in_order cmp x (y ∷ ys) = if is_gt (cmp x y) then y ∷ put_in_order cmp x ys else x ∷ y ∷ ys

-- the elements in an order
abbrev pub in_order : {X : Type 0} → (X → X → Ordering) → List X → List X
in_order cmp [] = []
in_order cmp (x ∷ xs) = put_in_order cmp x (in_order cmp xs)

-- the lesser of an element and another, if there is another
abbrev pub lesser : {X : Type 0} → (X → X → Ordering) → X → Option X → X
lesser cmp x None = x
lesser cmp x (Some y) = if is_gt (cmp x y) then y else x

-- the least element, if there is any: the first of those that tie
abbrev pub least : {X : Type 0} → (X → X → Ordering) → List X → Option X
least cmp [] = None
least cmp (x ∷ xs) = Some (lesser cmp x (least cmp xs))
