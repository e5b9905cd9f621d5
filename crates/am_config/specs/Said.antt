-- What the members of a mapping of an `alertmanager.yml` say.
use Rattle.std.specs.Prelude.{◌≡◌, List, [], ◌∷◌, ℕ, Bool, false, Option, Some, None, IsSomeAnd, MatchOption, is_some, option_and_then}
use Rattle.std.specs.Prelude.{option_map, if◌then◌else◌}
use Rattle.std.specs.Fmt.{signed_decimal}
use Rattle.serde_json.specs.Data.{Data, Members, no_items, null, boolean, number, string, array, object}
use Rattle.serde_json.specs.Find.{as_array, as_bool, as_integer, as_null, get_member}

-- the value of a member that says something: null says nothing
abbrev pub said : List ℕ → Members → Option Data
said name members = option_and_then (λ value. if is_some (as_null value) then None else Some value) (get_member name members)

-- the member says something, and it decodes to this
abbrev pub Says : {X : Type 0} → (Data → X → Type 0) → List ℕ → Members → X → Type 0
Says decodes_to name members x = MatchOption (said name members) ⊥ (λ value. decodes_to value x)

-- the member decodes to this, or it says nothing, and this is its default
abbrev pub SaysOr : {X : Type 0} → (Data → X → Type 0) → X → List ℕ → Members → X → Type 0
SaysOr decodes_to absent name members x = MatchOption (said name members) (x ≡ absent) (λ value. decodes_to value x)

-- the member says something, and it decodes to this, or it says nothing, and there is none
abbrev pub SaysIf : {X : Type 0} → (Data → X → Type 0) → List ℕ → Members → Option X → Type 0
SaysIf decodes_to name members found = MatchOption (said name members) (found ≡ None) (λ value. IsSomeAnd found (decodes_to value))

-- the member says nothing, or an array without items
abbrev pub ListsNothing : List ℕ → Members → Type 0
ListsNothing name members = MatchOption (said name members) (Unit {0}) (λ value. as_array value ≡ Some no_items)

-- the text that a scalar is: a text itself, and an integer its digits
abbrev pub text_in : Data → Option (List ℕ)
text_in null = None
text_in (boolean _) = None
text_in (number n) = option_map signed_decimal (as_integer n)
text_in (string text) = Some text
text_in (array _) = None
text_in (object _) = None

-- the scalar is this text
abbrev pub IsScalar : Data → List ℕ → Type 0
IsScalar value text = text_in value ≡ Some text

-- a text, unless it is empty
abbrev pub non_empty : List ℕ → Option (List ℕ)
non_empty [] = None
non_empty (b ∷ bs) = Some (b ∷ bs)

-- the scalar is this text; the empty text is none
abbrev pub IsTextUnlessEmpty : Data → Option (List ℕ) → Type 0
IsTextUnlessEmpty value found = IsSomeAnd (text_in value) (λ text. found ≡ non_empty text)

-- whether a flag is set; null is one that isn't
abbrev pub flag_in : Data → Option Bool
flag_in null = Some false
flag_in (boolean flag) = Some flag
flag_in (number _) = None
flag_in (string _) = None
flag_in (array _) = None
flag_in (object _) = None

-- the flag is set or not, as this says
abbrev pub IsSet : Data → Bool → Type 0
IsSet value flag = flag_in value ≡ Some flag
