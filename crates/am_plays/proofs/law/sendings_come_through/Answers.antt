use Rattle.am_plays.proofs.Recovering.{flushes_come_through}
use Rattle.am_plays.proofs.Recovery.{sendings_come_through}
use Rattle.am_plays.proofs.law.sendings_come_through.Goals as goal

pub returns-clause-sendings : goal.returns-clause-sendings
returns-clause-sendings c = sendings_come_through

pub returns-clause-flushes : goal.returns-clause-flushes
returns-clause-flushes c = flushes_come_through
