use Rattle.am_pool.proofs.Dealings.{forks}
use Rattle.am_pool.proofs.queue.split.Goals as goal

pub another-requires-clause-rule : goal.another-requires-clause-rule
another-requires-clause-rule c = forks _ _ c.requires.1
