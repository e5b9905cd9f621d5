use Rattle.am_pool.proofs.Dealings.{begins}
use Rattle.am_pool.proofs.queue.fill.Goals as goal

pub ruled-requires-clause-rule : goal.ruled-requires-clause-rule
ruled-requires-clause-rule g c = begins
