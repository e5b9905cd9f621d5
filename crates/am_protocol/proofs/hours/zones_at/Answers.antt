use Rattle.std.proofs.Common.{[], ◌≡◌, codes}
use Rattle.serde_json.specs.Find.{get_member}
use Rattle.serde_json.specs.View.{members_view, view}
use Rattle.am_protocol.proofs.Clocks.{given_ok}
use Rattle.am_protocol.specs.Hours.{ListsZones}
use Rattle.am_protocol.proofs.hours.zones_at.Goals as goal

pub returns-in-Some : goal.returns-in-Some
returns-in-Some c =
    given_ok (λ v zones. ListsZones v zones.items) (λ zones. zones.items ≡ []) c.read_zones.result (get_member (codes "zones") (members_view c.args.call.now.members))
    (view c.in-Some.member.value) c.in-Some.ensures.value c.read_zones.ensures
