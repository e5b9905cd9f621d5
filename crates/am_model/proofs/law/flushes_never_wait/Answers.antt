use Rattle.am_model.proofs.legal.NeverWait.{flushes_never_wait}
use Rattle.am_model.proofs.law.flushes_never_wait.Goals as goal

pub returns : goal.returns
returns c = flushes_never_wait
