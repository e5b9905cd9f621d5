use Rattle.am_paging.proofs.Asking.{asking_is_on_time}
use Rattle.am_paging.proofs.law.asking_is_on_time.Goals as goal

pub returns : goal.returns
returns c = asking_is_on_time
