use Rattle.am_model.proofs.looking_back.reasons.ReasonsAreExact.{begins_have_reasons, not_yet_ends}
use Rattle.am_model.proofs.looking_back.reasons.ReasonsSay.{reasons_are_so}
use Rattle.am_model.proofs.law.reasons_are_exact.Goals as goal

pub returns-clause-notified : goal.returns-clause-notified
returns-clause-notified c = begins_have_reasons

pub returns-clause-so : goal.returns-clause-so
returns-clause-so c = reasons_are_so

pub returns-clause-waits : goal.returns-clause-waits
returns-clause-waits c = not_yet_ends
