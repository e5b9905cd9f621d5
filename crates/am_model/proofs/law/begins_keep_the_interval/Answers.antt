use Rattle.am_model.proofs.looking_back.flushes.BeginIntervals.{begins_keep_the_interval}
use Rattle.am_model.proofs.law.begins_keep_the_interval.Goals as goal

pub returns : goal.returns
returns c = begins_keep_the_interval
