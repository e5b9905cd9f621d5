-- How faults compose: where there is none in the end, there was none before.
use Rattle.std.specs.Prelude.{◌≡◌, ◌++◌, List, []}
use Rattle.am_json.specs.declared.faults.Fault.{Fault}

-- this holds, and there was no fault before, if there is none behind it
abbrev pub Collects : List Fault → List Fault → Type 0 → Type 0
Collects before after P = after ≡ [] → (before ≡ []) × P

-- there was no fault before if there is none behind it
abbrev pub Grows : List Fault → List Fault → Type 0
Grows before after = after ≡ [] → before ≡ []

-- behind a list come others, of which this holds
abbrev pub Adds : {X : Type 0} → List X → List X → (List X → Type 0) → Type 0
Adds {X = X} before after P = (added : List X) × (after ≡ before ++ added) × P added
