-- What JSON values decode to: texts, numbers, answers, lists, and fields with their defaults.
use Rattle.std.specs.Prelude.{◌≡◌, ℕ, Bool, List, [], ◌∷◌, Option, Some, None, IsSomeAnd, MatchOption, codes}
use Rattle.serde_json.specs.Data.{Data, Items, no_items, item, Members}
use Rattle.serde_json.specs.Find.{as_array, as_bool, as_object, as_str, get_member}
use Rattle.am_json.specs.Read.{number_in, duration_in, interval_in}
use Rattle.am_retry.specs.declared.outcome.Answer.{Answer}
use Rattle.am_retry.specs.declared.outcome.Answer.TheVariants.{Done, Again, Never}

abbrev pub IsText : Data → List ℕ → Type 0
IsText value text = as_str value ≡ Some text

abbrev pub IsFlag : Data → Bool → Type 0
IsFlag value flag = as_bool value ≡ Some flag

-- from 0 to 2^64 - 1, written without point or exponent
abbrev pub IsNumber : Data → ℕ → Type 0
IsNumber value number = number_in value ≡ Some number

-- in milliseconds
abbrev pub IsDuration : Data → ℕ → Type 0
IsDuration value duration = duration_in value ≡ Some duration

-- a duration that isn't zero, in milliseconds
abbrev pub IsInterval : Data → ℕ → Type 0
IsInterval value interval = interval_in value ≡ Some interval

abbrev pub answer_text : Answer → List ℕ
answer_text Done = codes "done"
answer_text Again = codes "again"
answer_text Never = codes "never"

-- the word for an answer
abbrev pub IsAnswer : Data → Answer → Type 0
IsAnswer value answer = as_str value ≡ Some (answer_text answer)

-- the items of an array decode to those of a list, one by one
abbrev pub DecodeEach : {X : Type 0} → (Data → X → Type 0) → Items → List X → Type 0
DecodeEach decodes_to no_items [] = Unit {0}
DecodeEach decodes_to no_items (x ∷ xs) = ⊥
DecodeEach decodes_to (item value values) [] = ⊥
DecodeEach decodes_to (item value values) (x ∷ xs) = decodes_to value x × DecodeEach decodes_to values xs

-- an array whose items decode to those of a list
abbrev pub IsList : {X : Type 0} → (Data → X → Type 0) → Data → List X → Type 0
IsList decodes_to value xs = MatchOption (as_array value) ⊥ (λ items. DecodeEach decodes_to items xs)

-- an object whose fields decode to this value
abbrev pub IsObject : {X : Type 0} → (Members → X → Type 0) → Data → X → Type 0
IsObject has value x = MatchOption (as_object value) ⊥ (λ members. has members x)

-- the field of this name is there, and decodes to this value
abbrev pub Has : {X : Type 0} → (Data → X → Type 0) → List ℕ → Members → X → Type 0
Has decodes_to name members x = MatchOption (get_member name members) ⊥ (λ value. decodes_to value x)

-- the field of this name decodes to this value, or it is absent, and this value is its default
abbrev pub HasOr : {X : Type 0} → (Data → X → Type 0) → X → List ℕ → Members → X → Type 0
HasOr decodes_to absent name members x = MatchOption (get_member name members) (x ≡ absent) (λ value. decodes_to value x)

-- the field of this name is there, and decodes to this value, or it is absent, and there is none
abbrev pub HasIf : {X : Type 0} → (Data → X → Type 0) → List ℕ → Members → Option X → Type 0
HasIf decodes_to name members found = MatchOption (get_member name members) (found ≡ None) (λ value. IsSomeAnd found (decodes_to value))

-- there is no member of this name
abbrev pub HasNone : List ℕ → Members → Type 0
HasNone name members = get_member name members ≡ None
