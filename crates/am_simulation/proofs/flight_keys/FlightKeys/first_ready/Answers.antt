use Rattle.std.proofs.Common.{length}
use Rattle.std.proofs.lemmas.Bool.{false≢true}
use Rattle.am_simulation.proofs.KeyChanges.{first_ready, no_length, none_among}
use Rattle.am_simulation.proofs.flight_keys.FlightKeys.first_ready.Goals as goal

pub returns-in-Some-clause-first : goal.returns-in-Some-clause-first
returns-in-Some-clause-first c = first_ready c.args.self.now c.in-Some.begin.now c.in-Some.ensures.least

pub returns-in-None-clause-none : goal.returns-in-None-clause-none
returns-in-None-clause-none c =
    λ begin. none_among _ c.args.self.now.ready.keys (no_length (length c.args.self.now.ready.keys) (λ some. false≢true (c.in-None.ensures.variant.1 some)))
