use Rattle.std.proofs.Common.{◌≡◌, ◌∙◌, ap, option_map, sym}
use Rattle.serde_json.proofs.Views.{view-Object, view-lookup}
use Rattle.serde_json.specs.Data.{object}
use Rattle.serde_json.specs.Find.{get, get_member}
use Rattle.serde_json.specs.View.{members_view, view}
use Rattle.am_scenario.proofs.scenario.items.into_member.Goals as goal

-- looking a name up in the map is looking it up in what the map represents
pub returns-in-Object : goal.returns-in-Object
returns-in-Object c =
    let name = c.args.name.now in
    let members = c.in-Object.members in
    let found : option_map view c.remove.result ≡ get_member name (members_view members.entries) =
    ap (option_map view) c.remove.ensures.value ∙ view-lookup name members.entries in
    let seen : view c.args.value ≡ object (members_view members.entries) = ap view c.in-Object.is ∙ view-Object members in
    found ∙ sym (ap (get name) seen)
