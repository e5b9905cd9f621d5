-- The log as the list of its known keys, each with a row or none.
use Rattle.std.specs.Prelude.{ℕ, Bool, true, false, nat_lt, ◌&&◌, ◌||◌, nat_eq, nat_le, List, [], ◌∷◌, ◌++◌, Option, None}
use Rattle.std.specs.Prelude.{Some, map, filter, is_some, count_by, if◌then◌else◌}
use Rattle.std.specs.List.{IsDistinct, filter_map, list_any}
use Rattle.std.specs.Map.{keys_of, lookup, set_value}
use Rattle.std.specs.Option.{option_flatten, option_map}
use Rattle.am_nflog.specs.declared.key.LogKey.{LogKey}
use Rattle.am_nflog.specs.declared.row.LogRow.{LogRow}

-- the known keys in the order in which they came, each with its row, if it has one
abbrev pub Slots : Type 0 → Type 0 → Type 0
Slots G N = List (LogKey G × Option (LogRow N))

-- the two keys are of one group and one integration
abbrev pub key_eq : {G : Type 0} → (G → G → Bool) → LogKey G → LogKey G → Bool
key_eq eq a b = eq a.group b.group && nat_eq a.integration b.integration

-- a row is of a later time than a key's own, if the key has one
abbrev pub is_later : {N : Type 0} → LogRow N → Option (LogRow N) → Bool
is_later row None = true
is_later row (Some own) = nat_lt own.time row.time

module _ {G N : Type 0} (eq : G → G → Bool) where
  -- the key is known
  abbrev pub is_known : Slots G N → LogKey G → Bool
  is_known log key = is_some (lookup (key_eq eq key) log)

  -- no two known keys are equal
  abbrev pub HasDistinctKeys : Slots G N → Type 0
  HasDistinctKeys log = IsDistinct (key_eq eq) (keys_of log)

  -- the key's row
  abbrev pub row_of : Slots G N → LogKey G → Option (LogRow N)
  row_of log key = option_flatten (lookup (key_eq eq key) log)

  -- the log in which the key is known: a new key comes last, with no row
  abbrev pub with_key : Slots G N → LogKey G → Slots G N
  with_key log key = if is_known log key then log else log ++ (key, None) ∷ []

  -- the log with this row at the known key
  abbrev pub with_row : Slots G N → LogKey G → LogRow N → Slots G N
  with_row log key row = set_value (key_eq eq key) log (Some row)

  -- the log with this row at the key, known or not, unless the key's own row is of the same time or a later one (Alertmanager's merge,
  -- past its check of the expiry)
  abbrev pub merged : Slots G N → LogKey G → LogRow N → Slots G N
  merged log key row = if is_later row (row_of log key) then with_row (with_key log key) key row else log

  -- the log in which of the keys without a row only those of these groups are known
  abbrev pub without_unused : List G → Slots G N → Slots G N
  without_unused groups log = filter (λ slot. is_some slot.1 || list_any (λ g. eq g slot.0.group) groups) log

-- the rows that are there, each under its key, in the order of the keys
abbrev pub rows_of : {G N : Type 0} → Slots G N → List (LogKey G × LogRow N)
rows_of log = filter_map (λ slot. option_map (λ row. (slot.0, row)) slot.1) log

-- there is a row, and its expiry is reached at t
abbrev pub is_expired : {N : Type 0} → ℕ → Option (LogRow N) → Bool
is_expired t None = false
is_expired t (Some row) = nat_le row.expiry t

-- the row that a collection at t leaves
abbrev pub kept : {N : Type 0} → ℕ → Option (LogRow N) → Option (LogRow N)
kept t row = if is_expired t row then None else row

-- the log that a collection at t leaves: it is what Alertmanager's nflog calls GC, but that the keys stay known
abbrev pub collected : {G N : Type 0} → ℕ → Slots G N → Slots G N
collected t log = map (λ slot. (slot.0, kept t slot.1)) log

-- how many rows the collection removes
abbrev pub expired_count : {G N : Type 0} → ℕ → Slots G N → ℕ
expired_count t log = count_by (λ slot. is_expired t slot.1) log
