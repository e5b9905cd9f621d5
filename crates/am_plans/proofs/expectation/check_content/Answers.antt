use Rattle.std.proofs.Common.{ap, is_some}
use Rattle.am_plans.proofs.expectation.check_content.Goals as goal

pub returns-in_err-item-clause-refused : goal.returns-in_err-item-clause-refused
returns-in_err-item-clause-refused c there = absurd (cc (ap is_some c.in_err-item.ensures.members, there))
