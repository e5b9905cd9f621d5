-- Keyed: tables in which each value is under the key that the value itself gives.
use Rattle.std.specs.Prelude.{◌≡◌, List, All}

-- each entry is under its value's key
abbrev pub AreKeyed : {K X : Type 0} → (X → K) → List (K × X) → Type 0
AreKeyed key entries = All (λ e. e.0 ≡ key e.1) entries
