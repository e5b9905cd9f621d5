use Rattle.am_simulation.proofs.Keyed.{end_first, none_to_come}
use Rattle.am_simulation.proofs.flights.keyed_end.Goals as goal

pub returns-in-None : goal.returns-in-None
returns-in-None c = none_to_come c.args.keys.now c.args.keys.now.above c.args.list.now.items c.in-None.ensures.none c.requires

pub returns-in-Some-end_of_key : goal.returns-in-Some-end_of_key
returns-in-Some-end_of_key c =
    end_first c.args.keys.now c.in-Some.key c.in-Some.ensures.first c.args.keys.now.above c.args.list.now.items c.in-Some-end_of_key.next c.requires
    c.in-Some-end_of_key.ensures
