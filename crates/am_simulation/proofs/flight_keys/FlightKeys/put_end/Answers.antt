use Rattle.am_simulation.proofs.KeyChanges.{put_end}
use Rattle.am_simulation.proofs.flight_keys.FlightKeys.put_end.Goals as goal

pub returns-in-Ok-clause-put : goal.returns-in-Ok-clause-put
returns-in-Ok-clause-put c = put_end c.args.self.now c.insert.new.self c.args.key c.in-Ok.ensures.updates
