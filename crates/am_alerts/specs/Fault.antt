-- Values that are made unless there is a fault, and the first fault of a list.
use Rattle.std.specs.Prelude.{Option, Some, None, Result, Ok, Err, List, [], ◌∷◌}
use Rattle.std.specs.Option.{option_or}

-- the value, or the fault if there is one
abbrev pub ok_unless : {F T : Type 0} → Option F → T → Result T F
ok_unless None value = Ok value
ok_unless (Some fault) value = Err fault

-- the fault of the first element that has one
abbrev pub first_fault : {X F : Type 0} → (X → Option F) → List X → Option F
first_fault fault_of [] = None
first_fault fault_of (x ∷ xs) = option_or (fault_of x) (first_fault fault_of xs)
