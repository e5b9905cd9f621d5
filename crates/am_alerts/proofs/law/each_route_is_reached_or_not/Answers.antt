use Rattle.am_alerts.proofs.TreeLaws.{reached_or_not}
use Rattle.am_alerts.proofs.law.each_route_is_reached_or_not.Goals as goal

pub returns : goal.returns
returns c = reached_or_not
