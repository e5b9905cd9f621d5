use Rattle.am_pool.proofs.Dealings.{deals_each_once}
use Rattle.am_pool.proofs.law.queue_deals_each_number_once.Goals as goal

pub returns : goal.returns
returns c = deals_each_once
