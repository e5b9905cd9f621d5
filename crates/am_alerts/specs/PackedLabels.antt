-- Labels packed into a run, each with where it is there.
use Rattle.std.specs.Prelude.{◌≡◌, ◌<◌, ◌+◌, ℕ, Bool, List, map, take, drop, length, ◌++◌}
use Rattle.std.specs.List.{list_any, All}
use Rattle.std.specs.Str.{IsCharBoundary}
use Rattle.am_alerts.specs.declared.labels.Label.{Label}
use Rattle.am_alerts.specs.declared.packed_labels.Cut.{Cut}
use Rattle.am_alerts.specs.Packing.{packed, packed_label, run_hash, has_zero}

-- the label at a cut
abbrev pub label_at : List ℕ → Cut → Label
label_at run c = record {
  name = take c.name_len (drop c.start run);
  value = take c.value_len (drop (c.start + c.name_len + 1) run);
}

-- the labels at these cuts
abbrev pub labels_at : List ℕ → List Cut → List Label
labels_at run cuts = map (label_at run) cuts

-- a label can be cut out of the run, with a byte behind its name and one behind its value
pub record IsCut (run : List ℕ) (c : Cut) : Type 0 where
  pub within : c.start + c.name_len + 1 + c.value_len < length run
  pub at_name : IsCharBoundary run c.start
  pub behind_name : IsCharBoundary run (c.start + c.name_len)
  pub at_value : IsCharBoundary run (c.start + c.name_len + 1)
  pub behind_value : IsCharBoundary run (c.start + c.name_len + 1 + c.value_len)

-- the run is the labels' packed form, each can be cut out, the hash is the run's, and the mark says whether a text has a 0 byte
pub record IsPacked (run : List ℕ) (cuts : List Cut) (hash : ℕ) (is_marked : Bool) : Type 0 where
  pub run_is : run ≡ packed (labels_at run cuts)
  pub cuts_are : All (IsCut run) cuts
  pub hash_is : hash ≡ run_hash run
  pub mark_is : is_marked ≡ list_any has_zero (labels_at run cuts)

-- a label was appended to a run, and it is at this cut
pub record IsPushed (old : List ℕ) (label : Label) (new : List ℕ) (c : Cut) : Type 0 where
  pub run_is : new ≡ old ++ packed_label label
  pub start_is : c.start ≡ length old
  pub name_is : c.name_len ≡ length label.name
  pub value_is : c.value_len ≡ length label.value
