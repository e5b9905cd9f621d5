use Rattle.std.proofs.Common.{◌∙◌, sym}
use Rattle.am_config.proofs.Timed.{located, zone_known, zone_utc}
use Rattle.am_config.proofs.hours.Hours.clock.Goals as goal

pub returns-then-is_utc : goal.returns-then-is_utc
returns-then-is_utc c =
    located c.args.self.now c.args.location.now c.utc.result c.clock_of-then-is_utc.result
    (zone_utc c.args.self.now c.args.location.now c.utc.result (sym c.is_utc.ensures ∙ c.if-is_utc.true) c.utc.ensures) c.clock_of-then-is_utc.ensures

pub returns-in-Some : goal.returns-in-Some
returns-in-Some c =
    let known = c.in-Some.known.now in
    located c.args.self.now c.args.location.now known.zone c.clock_of-in-Some.result
    (zone_known c.args.self.now c.args.location.now known (sym c.is_utc.ensures ∙ c.if-is_utc.false) c.in-Some.ensures) c.clock_of-in-Some.ensures
