use Rattle.am_alerts.proofs.TreeLaws.{tried_in_order}
use Rattle.am_alerts.proofs.law.one_level_is_tried_in_order.Goals as goal

pub returns : goal.returns
returns c = tried_in_order
