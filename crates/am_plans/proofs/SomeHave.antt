-- What one of some configurations has.
use Rattle.std.proofs.Common.{◌≡◌, ◌||◌, ◌∙◌, Bool, false, List, map, ap}
use Rattle.std.specs.List.{list_any}
use Rattle.am_model.proofs.lists.Sets.{any-map}

-- where the first hasn't, one of the others has
pub one_of_others : {X Y : Type 0} (test : Y → Bool) (f : X → Y) (first : Bool) (xs : List X) → first ≡ false
    → (first || list_any test (map f xs)) ≡ list_any (λ x. test (f x)) xs
one_of_others test f first xs none = ap (λ b. b || list_any test (map f xs)) none ∙ any-map test f xs
