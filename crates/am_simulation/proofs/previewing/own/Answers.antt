use Rattle.am_simulation.proofs.Calling.{own_is}
use Rattle.am_simulation.proofs.previewing.own.Goals as goal

pub returns-in-Flush : goal.returns-in-Flush
returns-in-Flush c = own_is c.args.begun c.in-Flush.ticket c.new.result c.in-Flush.is c.new.ensures
