-- Due: the keys of the set of due times, and what the set has while it is complete.
use Rattle.std.specs.Prelude.{◌≡◌, ◌<◌, ◌||◌, ℕ, Bool, true, false, Option, Some, None, List}
use Rattle.std.specs.Prelude.{All, IsTrue, length, slice_index_or}
use Rattle.std.specs.List.{IsDistinct}
use Rattle.std.specs.Map.{keys_of, values_of}
use Rattle.am_model.specs.State.{FlushState, is_flushing, same_name}
use Rattle.am_model.specs.declared.group.GroupName.{GroupName}
use Rattle.am_board.specs.DueOrder.{has_key, key_at}
use Rattle.am_board.specs.declared.due.DueKey.{DueKey}
use Rattle.am_board.specs.declared.due.DueSet.{DueSet}
use Rattle.am_board.specs.declared.group.Group.{Group}
use Rattle.am_board.specs.GroupList.{name_of}
use Rattle.am_board.specs.Keyed.{AreKeyed}

-- whether a key is in the ring, in the tree or in the heap
abbrev pub holds_key : DueSet → DueKey → Bool
holds_key set key = has_key set.ring key || (has_key set.tree.keys key || has_key set.heap key)

-- the set has a key, if it is whole
abbrev pub HasKey : DueSet → DueKey → Type 0
HasKey set key = IsTrue set.whole → IsTrue (holds_key set key)

-- the key of a group
abbrev pub key_of : Group → DueKey
key_of g = key_at g.name g.due

-- the set has the key of each group without an open flush, if it is whole
abbrev pub AreDue : DueSet → List Group → Type 0
AreDue set groups = All (λ g. g.is_open ≡ false → HasKey set (key_of g)) groups

-- each group is under its name, which no other has, and its key is in the set, unless a flush of it is open or the set isn't whole
pub record IsTied (set : DueSet) (entries : List (GroupName × Group)) : Type 0 where
  pub keyed : AreKeyed name_of entries
  pub distinct : IsDistinct same_name (keys_of entries)
  pub due : AreDue set (values_of entries)

-- the group at this index is the only one that has the key, or none has it
abbrev pub IsCurrent : List Group → DueKey → Option ℕ → Type 0
IsCurrent groups key None = All (λ g. key_of g ≡ key → ⊥) groups
IsCurrent groups key (Some i) =
    (i < length groups)
    × ((d : Group) → key_of (slice_index_or groups i d) ≡ key)
    × ((j : ℕ) (d : Group) → j < length groups → key_of (slice_index_or groups j d) ≡ key → j ≡ i)

-- the group at this index is the only one that has the key, and no flush of it is open; or each group with the key has an open flush
abbrev pub IsFree : List FlushState → List Group → DueKey → Option ℕ → Type 0
IsFree flushes groups key None = All (λ g. key_of g ≡ key → is_flushing flushes key.name ≡ true) groups
IsFree flushes groups key (Some i) = IsCurrent groups key (Some i) × (is_flushing flushes key.name ≡ false)
