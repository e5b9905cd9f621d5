-- The receiver of a name, and its integrations.
use Rattle.std.proofs.Common.{◌≡◌, ℕ, Bool, true, false, List, [], ◌∷◌, find, refl, if◌then◌else◌}
use Rattle.std.specs.Prelude.{Option, Some, None}
use Rattle.std.specs.Str.{bytes_eq}
use Rattle.am_model.specs.declared.config.Receiver.{Receiver}
use Rattle.am_model.specs.declared.config.Integration.{Integration}
use Rattle.am_model.specs.Configured.{integrations_named}

-- the integrations that a receiver has, or none
abbrev pub integrations_in : Option Receiver → List Integration
integrations_in None = []
integrations_in (Some r) = r.integrations

-- those of a name are those of the first receiver that has it
pub integrations-found : (name : List ℕ) (receivers : List Receiver) → integrations_named name receivers ≡ integrations_in (find (λ r. bytes_eq r.name name) receivers)
integrations-found name [] = refl
integrations-found name (r ∷ rs) = first (integrations-found name rs) (bytes_eq r.name name)
  where
    first : integrations_named name rs ≡ integrations_in (find (λ r. bytes_eq r.name name) rs)
        → (b : Bool) → (if b then r.integrations else integrations_named name rs) ≡ integrations_in (if b then Some r else find (λ r. bytes_eq r.name name) rs)
    first later true = refl
    first later false = later
