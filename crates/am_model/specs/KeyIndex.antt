-- KeyIndex: where keys are, as `route_keys` and `rekey` keep it.
use Rattle.std.specs.Prelude.{◌≡◌, ℕ, Vec, List, [], None, Option, Some}
use Rattle.std.specs.Cmp.Lexicographic.{pointwise}
use Rattle.std.specs.Global.{Global}
use Rattle.std.specs.HashMap.{HashMap, get}
use Rattle.std.specs.Prelude.{nat_eq}
use Rattle.am_model.specs.RouteKeys.{positions_from}

-- the positions among these, if there are any
abbrev pub positions_in : Option (Vec ℕ Global) → List ℕ
positions_in None = []
positions_in (Some positions) = positions.items

-- the positions under a key
abbrev pub positions_at : {S : Type 0} → HashMap (List ℕ) (Vec ℕ Global) S → List ℕ → List ℕ
positions_at index key = positions_in (get (pointwise nat_eq) index key)

-- an index has each key's positions among these keys, which are from position 0 on
abbrev pub IsIndexOf : {S : Type 0} → List (List ℕ) → HashMap (List ℕ) (Vec ℕ Global) S → Type 0
IsIndexOf keys index = (key : List ℕ) → positions_at index key ≡ positions_from 0 key keys
