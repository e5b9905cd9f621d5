use Rattle.am_plays.proofs.AfterOutages.{pages_come_after_outages, plays_deliver_after_outages}
use Rattle.am_plays.proofs.law.pages_come_after_outages.Goals as goal

pub returns-clause-flush : goal.returns-clause-flush
returns-clause-flush c = pages_come_after_outages

pub returns-clause-alert : goal.returns-clause-alert
returns-clause-alert c = plays_deliver_after_outages
