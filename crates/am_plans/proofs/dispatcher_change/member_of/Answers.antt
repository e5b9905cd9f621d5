use Rattle.std.proofs.Common.{◌∙◌, List, String, option_map, ap}
use Rattle.std.specs.declared.alloc.Global.{Global}
use Rattle.serde_json.specs.Find.{get_member}
use Rattle.serde_json.specs.View.{members_view, view}
use Rattle.serde_json.specs.declared.value.Value.{Value}
use Rattle.serde_json.proofs.Views.{view_of_ref, view-lookup}
use Rattle.am_plans.proofs.dispatcher_change.member_of.Goals as goal

pub returns : goal.returns
returns c =
    view_of_ref c.get.result ∙ ap (option_map view) c.get.ensures.value ∙ view-lookup c.args.name.now c.members.result.now.entries
    ∙ ap (λ (es : List (String Global × Value)). get_member c.args.name.now (members_view es)) c.members.ensures
