use Rattle.am_pool.proofs.Dealings.{puts, has_space}
use Rattle.am_pool.proofs.queue.put.Goals as goal

pub push_as-requires-clause-rule : goal.push_as-requires-clause-rule
push_as-requires-clause-rule g c = (puts _ _ _ _ c.requires.whole.0 c.requires.whole.1, has_space _ _ c.requires.whole.0)
