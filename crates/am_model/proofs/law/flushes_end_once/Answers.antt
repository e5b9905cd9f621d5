use Rattle.am_model.proofs.looking_back.flushes.FlushesOnce.{flushes_end_once}
use Rattle.am_model.proofs.law.flushes_end_once.Goals as goal

pub returns : goal.returns
returns c = flushes_end_once
