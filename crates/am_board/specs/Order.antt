-- Order: the alerts of a group in the order of their labels, as indexes.
use Rattle.std.specs.Prelude.{◌≡◌, ◌≤◌, ℕ, List, IsPermutation, length, map, slice_get}
use Rattle.std.specs.List.{range_with_len}
use Rattle.std.specs.Option.{option_cmp}
use Rattle.std.specs.declared.cmp.Ordering.{Ordering}
use Rattle.am_alerts.specs.Labels.{label_set_cmp}
use Rattle.am_alerts.specs.declared.labels.Label.{Label}
use Rattle.am_board.specs.declared.group.Member.{Member}
use Rattle.am_board.specs.Members.{labels_of}
use Rattle.am_model.specs.Lists.{in_order}

-- the order of alerts of a group by their labels
abbrev pub member_cmp : Member → Member → Ordering
member_cmp a b = label_set_cmp (labels_of a) (labels_of b)

-- the order of indexes by the label sets that are there
abbrev pub index_cmp : List (List Label) → ℕ → ℕ → Ordering
index_cmp sets i j = option_cmp label_set_cmp (slice_get sets i) (slice_get sets j)

-- the indexes of label sets, in the order of these
abbrev pub indexes_in_order : List (List Label) → List ℕ
indexes_in_order sets = in_order (index_cmp sets) (range_with_len 0 (length sets))

-- these are the indexes below a number, each once
abbrev pub AreFirst : List ℕ → Type 0
AreFirst indexes = IsPermutation (range_with_len 0 (length indexes)) indexes

-- the indexes of the first alerts are kept, and if those of all are, they are in the order of labels
pub record AreIndexes (order : List ℕ) (members : List Member) : Type 0 where
  pub first : AreFirst order
  pub within : length order ≤ length members
  pub sorted : length order ≡ length members → order ≡ indexes_in_order (map labels_of members)
