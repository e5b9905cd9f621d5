use Rattle.am_plays.proofs.OnTime.{begins_when_due}
use Rattle.am_plays.proofs.PassedOver.{nothing_due_is_left, nothing_due_is_passed_over}
use Rattle.am_plays.proofs.law.nothing_due_is_passed_over.Goals as goal

pub returns-clause-passed : goal.returns-clause-passed
returns-clause-passed c = nothing_due_is_passed_over

pub returns-clause-left : goal.returns-clause-left
returns-clause-left c = nothing_due_is_left

pub returns-clause-begun : goal.returns-clause-begun
returns-clause-begun c = begins_when_due
