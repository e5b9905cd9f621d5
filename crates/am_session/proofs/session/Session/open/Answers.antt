use Rattle.am_session.proofs.Opening.{lacking}
use Rattle.am_session.proofs.session.Session.open.Goals as goal

pub returns-in_err-names-clause-refused : goal.returns-in_err-names-clause-refused
returns-in_err-names-clause-refused c = lacking _ c.args.config c.from_residual-in_err-names.ensures.1
