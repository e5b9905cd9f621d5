use Rattle.std.proofs.Common.{Some, codes, sym}
use Rattle.serde_json.specs.Find.{get_member}
use Rattle.serde_json.specs.View.{members_view, view}
use Rattle.am_json.proofs.Decoding.{as_decoded, decoded_by}
use Rattle.am_protocol.specs.Opening.{HasClocked, IsTheirOpening}
use Rattle.am_protocol.proofs.opening.read_clocked.Goals as goal

pub returns : goal.returns
returns c =
    let o = c.in_ok-call.call in
    let members = members_view o.members in
    let opening = c.in_ok-opening.opening in
    let has : HasClocked o.mode members opening = record {
      only = sym c.in_ok-only.ensures.known;
      hours = c.in_ok-hours.hours;
      clocks = c.in_ok-hours.ensures;
      config = decoded_by (IsTheirOpening (Some c.in_ok-hours.hours)) (get_member (codes "alertmanager") members) (view c.in_ok-config.config.value) opening c.in_ok-config.ensures.value
          c.in_ok-opening.ensures;
    } in
    as_decoded HasClocked c.args.value.now.mode o.mode members (view c.args.value.now.value) opening c.in_ok-call.ensures.members c.in_ok-call.ensures.mode has
