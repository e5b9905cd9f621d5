-- MemberTable: the stored alerts of a group, with the order of their labels.
use Rattle.std.specs.Prelude.{ℕ, List}
use Rattle.std.specs.Map.{values_of}
use Rattle.am_alerts.specs.declared.labels.Label.{Label}
use Rattle.am_board.specs.declared.group.Member.{Member}
use Rattle.am_board.specs.Members.{AreMembers}
use Rattle.am_board.specs.Order.{AreIndexes}

-- each alert is under its labels, and the indexes that are kept are theirs
pub record IsTable (entries : List (List Label × Member)) (order : List ℕ) : Type 0 where
  pub members : AreMembers entries
  pub sorted : AreIndexes order (values_of entries)
