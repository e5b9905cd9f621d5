use Rattle.am_plays.proofs.PagesInPlays.{plays_page_in_time}
use Rattle.am_plays.proofs.Served.{plays_are_on_time}
use Rattle.am_plays.proofs.law.plays_page_in_time.Goals as goal

pub returns-clause-on_time : goal.returns-clause-on_time
returns-clause-on_time c = plays_are_on_time

pub returns-clause-paged : goal.returns-clause-paged
returns-clause-paged c = plays_page_in_time
