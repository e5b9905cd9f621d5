use Rattle.am_paging.proofs.Waits.{nobody_waits_longer}
use Rattle.am_paging.proofs.law.nobody_waits_longer.Goals as goal

pub returns : goal.returns
returns c = nobody_waits_longer
