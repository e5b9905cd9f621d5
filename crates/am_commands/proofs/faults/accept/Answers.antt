use Rattle.std.proofs.Common.{refl}
use Rattle.am_commands.proofs.faults.accept.Goals as goal

pub returns-in-Ok-clause-accepted : goal.returns-in-Ok-clause-accepted
returns-in-Ok-clause-accepted g c =
    record {
      changes = record { config = c.value_of.result; overrides = c.args.overrides };
      configured = c.value_of.ensures;
      overrides_are = refl;
      requested = c.in-Ok.ensures.decoded;
    }
