use Rattle.std.proofs.Common.{refl}
use Rattle.am_rehearse.proofs.unknown.refuse_unknown.Goals as goal

pub returns-in-Ok-Some-clause-refused : goal.returns-in-Ok-Some-clause-refused
returns-in-Ok-Some-clause-refused g c _ =
    record {
      input = c.in-Ok.input;
      requested = c.in-Ok.ensures.decoded;
      lacks = (rw c.in-Ok-Some.field-0-is at c.in-Ok-Some.ensures) refl;
    }
