use Rattle.am_simulation.proofs.KeyChanges.{put_ready}
use Rattle.am_simulation.proofs.flight_keys.FlightKeys.put_ready.Goals as goal

pub returns-in-Ok-clause-put : goal.returns-in-Ok-clause-put
returns-in-Ok-clause-put c = put_ready c.args.self.now c.insert.new.self c.args.begin c.in-Ok.ensures.updates
