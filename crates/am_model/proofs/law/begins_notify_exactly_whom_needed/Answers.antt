use Rattle.am_model.proofs.looking_back.reasons.WhomNeeded.{begins_notify_exactly_whom_needed}
use Rattle.am_model.proofs.law.begins_notify_exactly_whom_needed.Goals as goal

pub returns : goal.returns
returns c = begins_notify_exactly_whom_needed
