use Rattle.am_alerts.proofs.Muted.{never_muted}
use Rattle.am_alerts.proofs.law.one_level_is_never_muted.Goals as goal

pub returns : goal.returns
returns c = never_muted
