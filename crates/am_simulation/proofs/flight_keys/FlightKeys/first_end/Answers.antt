use Rattle.std.proofs.Common.{length}
use Rattle.std.proofs.lemmas.Bool.{false≢true}
use Rattle.am_simulation.proofs.KeyChanges.{first_end, no_length, none_among}
use Rattle.am_simulation.proofs.flight_keys.FlightKeys.first_end.Goals as goal

pub returns-in-Some-clause-first : goal.returns-in-Some-clause-first
returns-in-Some-clause-first c = first_end c.args.self.now c.in-Some.key.now c.in-Some.ensures.least

pub returns-in-None-clause-none : goal.returns-in-None-clause-none
returns-in-None-clause-none c =
    λ begin at. none_among _ c.args.self.now.coming.keys (no_length (length c.args.self.now.coming.keys) (λ some. false≢true (c.in-None.ensures.variant.1 some)))
