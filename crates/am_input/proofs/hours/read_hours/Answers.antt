use Rattle.serde_json.specs.View.{members_view}
use Rattle.am_input.proofs.Clocked.{without}
use Rattle.am_input.specs.Request.{end_for}
use Rattle.am_input.proofs.hours.read_hours.Goals as goal

pub returns-in-Err-read_zones : goal.returns-in-Err-read_zones
returns-in-Err-read_zones g c =
    let members = members_view c.args.top.now.members in
    without members (end_for c.args.until members) c.no_clocks-in-Err-read_zones.result c.no_clocks-in-Err-read_zones.ensures.none
    (λ ok zones. c.in-Err-read_zones.ensures.refused (c.no_clocks-in-Err-read_zones.ensures.refused ok) tt zones)
