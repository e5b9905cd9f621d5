use Rattle.am_simulation.proofs.Keyed.{finish_first, none_to_finish}
use Rattle.am_simulation.proofs.flights.keyed_finish.Goals as goal

pub returns-in-None : goal.returns-in-None
returns-in-None c = none_to_finish c.args.keys.now c.args.now c.args.keys.now.above c.args.list.now.items c.in-None.ensures.none c.requires

pub returns-in-Some-find_ready : goal.returns-in-Some-find_ready
returns-in-Some-find_ready c =
    finish_first c.args.keys.now c.args.now c.in-Some.begin c.in-Some.ensures.first c.args.keys.now.above c.args.list.now.items c.in-Some-find_ready.position c.requires
    c.in-Some-find_ready.ensures
