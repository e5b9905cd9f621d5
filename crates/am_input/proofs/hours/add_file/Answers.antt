use Rattle.std.proofs.Common.{ℕ, List, Option, subst, sym}
use Rattle.std.specs.Prelude.{IfSome}
use Rattle.am_hours.specs.Zones.{IsOfFile, ZoneData}
use Rattle.am_input.proofs.Clocked.{one_added}
use Rattle.am_input.specs.Clocks.{AddsFiled}
use Rattle.am_input.proofs.hours.add_file.Goals as goal

pub returns-in_ok-push : goal.returns-in_ok-push
returns-in_ok-push g c =
    let filed = subst (λ (o : Option ZoneData). IfSome o (λ z. (bytes : List ℕ) × IsOfFile bytes z)) c.in-Some.is c.in_ok-zone.ensures in
    subst (AddsFiled c.args.zones.now.items) (sym c.in_ok-push.ensures.items) (one_added c.args.zones.now.items _ filed)
