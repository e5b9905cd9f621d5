-- What a reader is at, and how it refuses.
use Rattle.std.specs.Prelude.{◌≡◌, ◌==◌, ◌&&◌, ℕ, Bool, true, false, List, Option, None, Some, String, if◌then◌else◌}
use Rattle.std.specs.Prelude.{option_and_then, option_map, IsTrue, IsUtf8}
use Rattle.std.specs.Borrow.{Bor}
use Rattle.std.specs.List.{list_any}
use Rattle.std.specs.Result.{result_ok}
use Rattle.std.specs.Str.{bytes_eq}
use Rattle.std.specs.declared.alloc.Global.{Global}
use Rattle.serde_json.specs.Data.{Data, Members, no_members, member}
use Rattle.serde_json.specs.Events.{items_len}
use Rattle.serde_json.specs.Find.{as_array, as_number, as_str, as_u64}
use Rattle.serde_json.specs.Read.{read}
use Rattle.serde_json.specs.declared.value.Value.{Value}
use Rattle.am_alerts.specs.Duration.{duration_of, within_limit}
use Rattle.am_alerts.specs.Labels.{occurs_in}
use Rattle.am_json.specs.declared.fault.InputFault.{InputFault}
use Rattle.am_json.specs.declared.fault.InputFault.TheVariants.{Refused, NoMemory}
use Rattle.am_json.specs.declared.fault.ParseFault.{ParseFault}
use Rattle.am_json.specs.declared.fault.ParseFault.TheVariants as parse
use Rattle.am_json.specs.declared.fault.FaultKind.{FaultKind}
use Rattle.am_json.specs.declared.reader.Mode.{Mode}
use Rattle.am_json.specs.declared.reader.Mode.TheVariants.{Lenient, Strict}

-- a JSON value, and the mode in which it is read
pub record ReaderData : Type 0 where
  pub value : Value
  pub mode : Mode

-- the members of a JSON object, and the mode in which they are read
pub record ObjectData : Type 0 where
  pub members : List (String Global × Value)
  pub mode : Mode

-- the number that a value is, from 0 to 2^64 - 1 and written without point or exponent
abbrev pub number_in : Data → Option ℕ
number_in value = option_and_then as_u64 (as_number value)

-- the duration that a value is, in milliseconds
abbrev pub duration_in : Data → Option ℕ
duration_in value = option_and_then (λ text. result_ok (within_limit (duration_of text))) (as_str value)

-- the duration that a value is, in milliseconds, if it isn't zero
abbrev pub interval_in : Data → Option ℕ
interval_in value = option_and_then (λ duration. if duration == 0 then None else Some duration) (duration_in value)

-- a value is an array of so many items
abbrev pub HasItems : Data → ℕ → Type 0
HasItems value count = option_map items_len (as_array value) ≡ Some count

-- whether a fault rejects a value; the other fault is `NoMemory`
abbrev pub is_refusal : InputFault → Bool
is_refusal (Refused pointer by) = true
is_refusal NoMemory = false

-- a rejected value decodes to none of these; `NoMemory` says nothing about the value
abbrev pub Excludes : {X : Type 0} → (X → Type 0) → InputFault → Type 0
Excludes {X = X} Decodes fault = IsTrue (is_refusal fault) → (x : X) → Decodes x → ⊥

-- rejected with this error kind, or with `NoMemory` if there is none for the pointer
abbrev pub IsRefusedBy : FaultKind → InputFault → Type 0
IsRefusedBy fault_kind (Refused pointer by) = by ≡ fault_kind
IsRefusedBy fault_kind NoMemory = Unit {0}

-- the bytes are the text of a JSON value
abbrev pub IsJson : List ℕ → Type 0
IsJson input = (value : Data) × (read input ≡ Some value)

-- the bytes are no JSON text in UTF-8
abbrev pub IsNoJson : List ℕ → Type 0
IsNoJson input = IsUtf8 input → read input ≡ None

-- why bytes are no value: they are no JSON text, or there was no memory
abbrev pub RefusesText : List ℕ → ParseFault → Type 0
RefusesText input (parse.NotJson line column) = IsNoJson input
RefusesText input parse.NoMemory = Unit {0}

-- whether a name is one of these
abbrev pub is_one_of : List (Bor (List ℕ)) → List ℕ → Bool
is_one_of names name = list_any (λ known. bytes_eq known.now name) names

-- whether each member has one of these names
abbrev pub are_named : List (List ℕ) → Members → Bool
are_named names no_members = true
are_named names (member name value rest) = occurs_in name names && are_named names rest

-- whether the names of members are known: in the strict mode each has one of these names
abbrev pub has_only : Mode → List (List ℕ) → Members → Bool
has_only Lenient names ms = true
has_only Strict names ms = are_named names ms
