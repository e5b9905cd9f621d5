use Rattle.serde_json.specs.View.{members_view}
use Rattle.am_config.specs.declared.hours.Hours.{Hours}
use Rattle.am_protocol.specs.Hours.{HasHours}
use Rattle.am_protocol.proofs.hours.read_hours.Goals as goal

pub returns-in-Some : goal.returns-in-Some
returns-in-Some c =
    let hours : Hours = record { start = c.in-Some.start; from = c.in_ok-now.now; horizon = c.in_ok-horizon.horizon; zones = c.in_ok-zones.zones } in
    let has : HasHours (members_view c.args.members.now.members) hours = record {
      from = c.in_ok-now.ensures.decoded;
      origin = c.in_ok-origin.origin.nanosecond;
      has_origin = c.in_ok-origin.ensures;
      start = c.in-Some.ensures;
      horizon = c.in_ok-horizon.ensures.decoded;
      zones = c.in_ok-zones.ensures;
    } in
    has
