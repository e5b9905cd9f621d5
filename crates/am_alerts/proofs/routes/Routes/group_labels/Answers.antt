use Rattle.am_alerts.proofs.Trees.{filter-groups_by_all}
use Rattle.am_alerts.proofs.routes.Routes.group_labels.Goals as goal

pub returns-in-All : goal.returns-in-All
returns-in-All c = rw (← c.route-route.ensures.route, c.in-All.is, filter-groups_by_all) c.copy.ensures
