use Rattle.am_pool.proofs.Dealings.{takes, learns}
use Rattle.am_pool.proofs.queue.take.Goals as goal

pub pop_as-requires-clause-rule : goal.pop_as-requires-clause-rule
pop_as-requires-clause-rule g c = (takes _ _ c.requires.1, learns _ _)
