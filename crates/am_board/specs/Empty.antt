-- Empty: how many of the stored groups have no alerts.
use Rattle.std.specs.Prelude.{◌≡◌, ℕ, Bool, List, count_by}
use Rattle.std.specs.Map.{values_of}
use Rattle.am_nflog.specs.Members.{is_empty}
use Rattle.am_model.specs.declared.group.GroupName.{GroupName}
use Rattle.am_board.specs.declared.group.Group.{Group}

-- whether a stored group has no alerts
abbrev pub is_bare : Group → Bool
is_bare g = is_empty g.members.items

-- so many of the groups have no alerts
abbrev pub IsCounted : ℕ → List (GroupName × Group) → Type 0
IsCounted n entries = n ≡ count_by is_bare (values_of entries)
