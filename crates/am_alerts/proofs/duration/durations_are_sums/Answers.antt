use Rattle.am_alerts.proofs.DurationTexts.{durations-are-sums}
use Rattle.am_alerts.proofs.duration.durations_are_sums.Goals as goal

pub returns : goal.returns
returns c = durations-are-sums
