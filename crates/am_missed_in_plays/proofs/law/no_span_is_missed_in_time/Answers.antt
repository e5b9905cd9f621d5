use Rattle.am_missed_in_plays.proofs.InTime.{no_span_is_missed_in_time}
use Rattle.am_missed_in_plays.proofs.law.no_span_is_missed_in_time.Goals as goal

pub returns : goal.returns
returns c = no_span_is_missed_in_time
