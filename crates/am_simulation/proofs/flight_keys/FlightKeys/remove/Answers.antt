use Rattle.am_simulation.proofs.KeyChanges.{drop_end, drop_ready}
use Rattle.am_simulation.proofs.flight_keys.FlightKeys.remove.Goals as goal

pub returns-in-None-clause-others : goal.returns-in-None-clause-others
returns-in-None-clause-others c = drop_ready c.args.self.now c.remove.new.self c.args.begin c.remove.ensures.updates

pub returns-in-Some-clause-others : goal.returns-in-Some-clause-others
returns-in-Some-clause-others c =
    drop_end c.args.self.now c.remove-in-Some.new.self (record { at = c.in-Some.at; begin = c.args.begin }) c.remove-in-Some.ensures.updates
