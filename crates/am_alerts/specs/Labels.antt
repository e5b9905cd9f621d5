-- Label names, labels and label sets.
use Rattle.std.specs.Prelude.{ℕ, ◌≤◌, Bool, true, false, ◌&&◌, ◌||◌, List, [], ◌∷◌, length, map, Option, Some, None, ◌==◌, nat_lt}
use Rattle.std.specs.Prelude.{is_none, unwrap_or, if◌then◌else◌, IsTrue, IsPermutation}
use Rattle.std.specs.Ordering.{ordering_then, is_lt, nat_cmp}
use Rattle.std.specs.declared.cmp.Ordering.{Ordering}
use Rattle.std.specs.Option.{option_map, option_or}
use Rattle.std.specs.List.{filter, find, list_any, list_all}
use Rattle.std.specs.Char.{is_ascii_alphabetic, is_ascii_digit}
use Rattle.std.specs.Cmp.Lexicographic.{pointwise, slice_cmp}
use Rattle.std.specs.Str.{bytes_eq}
use Rattle.std.specs.Borrow.{Bor}
use Rattle.am_alerts.specs.Fault.{first_fault}
use Rattle.am_alerts.specs.declared.labels.Label.{Label}
use Rattle.am_alerts.specs.declared.labels.LabelFault.{LabelFault}
use Rattle.am_alerts.specs.declared.labels.LabelFault.TheVariants.{Empty, BadName, Twice, TooMany, TooLong}
use Rattle.am_alerts.specs.declared.limits.TheConstants.{MAX_LABELS, MAX_NAME_BYTES, MAX_VALUE_BYTES}

-- whether a byte may begin a label name: a letter or `_`
abbrev pub begins_name : ℕ → Bool
begins_name b = is_ascii_alphabetic b || b == 95

-- whether a byte can be in a label name behind the first: a letter, `_` or a digit
abbrev pub is_name_byte : ℕ → Bool
is_name_byte b = begins_name b || is_ascii_digit b

-- whether a text has the form of a label name, `[a-zA-Z_][a-zA-Z0-9_]*`
abbrev pub is_label_name : List ℕ → Bool
is_label_name [] = false
is_label_name (b ∷ bs) = begins_name b && list_all is_name_byte bs

-- whether a text is in a list of texts
abbrev pub occurs_in : List ℕ → List (List ℕ) → Bool
occurs_in text texts = list_any (λ t. bytes_eq t text) texts

-- whether a text is twice in a list of texts
abbrev pub has_text_twice : List (List ℕ) → Bool
has_text_twice [] = false
has_text_twice (text ∷ texts) = occurs_in text texts || has_text_twice texts

-- the value of the label of this name, if there is one
abbrev pub value_in : List ℕ → List Label → Option (List ℕ)
value_in name labels = option_map (λ l. l.value) (find (λ l. bytes_eq l.name name) labels)

-- the value of the label of this name; a label that isn't there has the empty text
abbrev pub value_of : List ℕ → List Label → List ℕ
value_of name labels = unwrap_or (value_in name labels) []

-- the order of texts, by bytes, a proper prefix first
abbrev pub text_cmp : List ℕ → List ℕ → Ordering
text_cmp = slice_cmp nat_cmp

-- the order of labels: by name, then by value
abbrev pub label_cmp : Label → Label → Ordering
label_cmp a b = ordering_then (text_cmp a.name b.name) (text_cmp a.value b.value)

-- the order of label sets: that of their lists of labels, a proper prefix first
abbrev pub label_set_cmp : List Label → List Label → Ordering
label_set_cmp = slice_cmp label_cmp

-- whether two labels have one name and one value
abbrev pub same_label : Label → Label → Bool
same_label a b = bytes_eq a.name b.name && bytes_eq a.value b.value

-- whether two label sets have the same labels
abbrev pub same_label_set : List Label → List Label → Bool
same_label_set = pointwise same_label

-- whether a label has a value
abbrev pub has_value : Label → Bool
has_value l = nat_lt 0 (length l.value)

-- whether a name or a value is above its limit
abbrev pub is_long : Label → Bool
is_long l = nat_lt MAX_NAME_BYTES (length l.name) || nat_lt MAX_VALUE_BYTES (length l.value)

-- why a pair of a name and a value is no label
abbrev pub pair_fault : Label → Option LabelFault
pair_fault l = if is_label_name l.name then (if is_long l then Some TooLong else None) else Some BadName

-- the names of labels
abbrev pub names_of : List Label → List (List ℕ)
names_of labels = map (λ l. l.name) labels

-- why labels that have values are no label set
abbrev pub set_fault : List Label → Option LabelFault
set_fault labels =
    if nat_lt MAX_LABELS (length labels) then Some TooMany
    else (if has_text_twice (names_of labels) then Some Twice
    else (if length labels == 0 then Some Empty else None))

-- the pairs that have a value
abbrev pub with_values : List Label → List Label
with_values pairs = filter has_value pairs

-- why pairs of names and values are no label set
abbrev pub read_fault : List Label → Option LabelFault
read_fault pairs = option_or (first_fault pair_fault pairs) (set_fault (with_values pairs))

-- a pair of texts as a label
abbrev pub label_in : Bor (List ℕ) × Bor (List ℕ) → Label
label_in pair = record { name = pair.0.now; value = pair.1.now }

-- pairs of texts as labels
abbrev pub labels_in : List (Bor (List ℕ) × Bor (List ℕ)) → List Label
labels_in pairs = map label_in pairs

-- the labels whose names are in a list
abbrev pub only_named : List (List ℕ) → List Label → List Label
only_named names labels = filter (λ l. occurs_in l.name names) labels

-- whether each label's name is below the names of all later ones
abbrev pub has_rising_names : List Label → Bool
has_rising_names [] = true
has_rising_names (l ∷ ls) = list_all (λ m. is_lt (text_cmp l.name m.name)) ls && has_rising_names ls

-- whether it is a label with a value, of a good name, and within the limits
abbrev pub is_label : Label → Bool
is_label l = is_none (pair_fault l) && has_value l

-- labels in the order of their names, which differ; each has a value, and they are within the limits
pub record IsLabelSet (labels : List Label) : Type 0 where
  pub rising : IsTrue (has_rising_names labels)
  pub labelled : IsTrue (list_all is_label labels)
  pub few : length labels ≤ MAX_LABELS

-- the label set that pairs of names and values give: those that have a value, in the order of their names
pub record IsReadOf (pairs labels : List Label) : Type 0 where
  pub label_set : IsLabelSet labels
  pub pairs_moved : IsPermutation (with_values pairs) labels
