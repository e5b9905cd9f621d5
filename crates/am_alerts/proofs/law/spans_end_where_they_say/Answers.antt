use Rattle.am_alerts.proofs.Muted.{ends}
use Rattle.am_alerts.proofs.law.spans_end_where_they_say.Goals as goal

pub returns : goal.returns
returns c = ends
