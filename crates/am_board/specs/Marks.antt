-- Marks: which groups have an open flush.
use Rattle.std.specs.Prelude.{◌≡◌, ◌&&◌, Bool, List, map, All}
use Rattle.std.specs.List.{list_any}
use Rattle.am_model.specs.State.{FlushState, is_flushing, same_name}
use Rattle.am_model.specs.declared.group.GroupName.{GroupName}
use Rattle.am_board.specs.declared.group.Group.{Group}

-- the name of a group, and whether it says that a flush of it is open
abbrev pub mark_of : Group → GroupName × Bool
mark_of g = (g.name, g.is_open)

-- the names of groups, and which of them say that a flush is open
abbrev pub marks_of : List Group → List (GroupName × Bool)
marks_of groups = map mark_of groups

-- whether a group of this name is marked as open
abbrev pub is_marked : List (GroupName × Bool) → GroupName → Bool
is_marked marks name = list_any (λ m. m.1 && same_name name m.0) marks

-- those groups are marked as open that have an open flush, and each open flush has its group
abbrev pub AreMarked : List FlushState → List Group → Type 0
AreMarked flushes groups = (name : GroupName) → is_marked (marks_of groups) name ≡ is_flushing flushes name

-- each of these groups says whether a flush of it is open
abbrev pub HaveOpenFlags : List FlushState → List Group → Type 0
HaveOpenFlags flushes groups = All (λ g. g.is_open ≡ is_flushing flushes g.name) groups
