use Rattle.am_plays.proofs.PagesInPlays.{plays_deliver_in_time}
use Rattle.am_plays.proofs.Served.{flushes_deliver}
use Rattle.am_plays.proofs.law.plays_deliver_in_time.Goals as goal

pub returns-clause-flushes : goal.returns-clause-flushes
returns-clause-flushes c = flushes_deliver

pub returns-clause-delivered : goal.returns-clause-delivered
returns-clause-delivered c = plays_deliver_in_time
