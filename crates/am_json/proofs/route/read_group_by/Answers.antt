use Rattle.std.proofs.Common.{◌≡◌, [], codes}
use Rattle.serde_json.specs.Find.{get_member}
use Rattle.serde_json.specs.View.{members_view, view}
use Rattle.am_alerts.specs.declared.route.GroupBy.TheVariants.{Names}
use Rattle.am_json.specs.Configured.{IsGroupBy}
use Rattle.am_json.specs.Decoding.{HasOr}
use Rattle.am_json.proofs.Decoding.{found, narrowed}
use Rattle.am_json.proofs.route.read_group_by.Goals as goal

pub returns-in-Some-clause-refused : goal.returns-in-Some-clause-refused
returns-in-Some-clause-refused c =
    let members = members_view c.args.route.now.members in
    let value = view c.in-Some.member.value in
    narrowed (IsGroupBy value) (HasOr IsGroupBy (Names []) (codes "group_by") members)
    (λ g decoded. found (g ≡ Names []) (λ v. IsGroupBy v g) value (get_member (codes "group_by") members) c.in-Some.ensures.value decoded)
    c.read_names.result c.read_names.ensures.refused
