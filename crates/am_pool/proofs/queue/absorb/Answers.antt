use Rattle.am_pool.proofs.Dealings.{merges}
use Rattle.am_pool.proofs.queue.absorb.Goals as goal

pub absorb-requires-clause-rule : goal.absorb-requires-clause-rule
absorb-requires-clause-rule c = merges _ _ _ _ c.requires.parts.0 c.requires.parts.1
