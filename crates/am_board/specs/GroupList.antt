-- GroupList: the stored groups, under their names, in the order in which they were made.
use Rattle.std.specs.Prelude.{ℕ, List}
use Rattle.am_board.specs.declared.group.Group.{Group}
use Rattle.am_model.specs.declared.group.GroupName.{GroupName}

-- groups, with capacity for so many more
pub record GroupList : Type 0 where
  pub items : List Group
  pub space : ℕ

-- the name that a group is under
abbrev pub name_of : Group → GroupName
name_of g = g.name
