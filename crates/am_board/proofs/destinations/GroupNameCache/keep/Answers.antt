use Rattle.std.proofs.Common.{◌≡◌, subst, Option}
use Rattle.std.specs.Prelude.{IfSome, List}
use Rattle.am_model.specs.Insert.{names_for}
use Rattle.am_model.specs.declared.group.GroupName.{GroupName}
use Rattle.am_board.proofs.destinations.GroupNameCache.keep.Goals as goal

pub returns-in-Some : goal.returns-in-Some
returns-in-Some c config known are within returned =
    c.put.ensures config known are within (λ a at. subst (λ (o : Option (List GroupName)). IfSome o (λ names. names ≡ names_for config a.labels)) c.in-Some.is (returned a at))
