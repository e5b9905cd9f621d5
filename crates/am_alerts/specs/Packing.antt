-- Labels packed into one run of bytes.
use Rattle.std.specs.Prelude.{ℕ, fold, Bool, ◌||◌, ◌==◌, List, [], ◌∷◌, ◌++◌}
use Rattle.std.specs.List.{flat_map, list_any}
use Rattle.std.specs.Hash as fed
use Rattle.std.specs.Hash.FoldHasher.{initial, write, finish}
use Rattle.am_alerts.specs.declared.labels.Label.{Label}

-- a label: its name and its value, each ended by a 0 byte
abbrev pub packed_label : Label → List ℕ
packed_label l = l.name ++ (0 ∷ (l.value ++ (0 ∷ [])))

-- labels, one behind the other
abbrev pub packed : List Label → List ℕ
packed labels = flat_map packed_label labels

-- the hash of a run
abbrev pub run_hash : List ℕ → ℕ
run_hash run = finish (fold write initial (fed.str run))

-- whether a text has a 0 byte
abbrev pub has_zero_byte : List ℕ → Bool
has_zero_byte text = list_any (λ b. b == 0) text

-- whether a text of a label has a 0 byte
abbrev pub has_zero : Label → Bool
has_zero l = has_zero_byte l.name || has_zero_byte l.value
