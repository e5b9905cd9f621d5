use Rattle.std.proofs.Common.{◌∙◌, ap, option_map}
use Rattle.serde_json.specs.Find.{get_member}
use Rattle.serde_json.specs.View.{members_view, view}
use Rattle.serde_json.proofs.Views.{Entry, view-lookup, view_of_ref}
use Rattle.std.proofs.Common.{List}
use Rattle.am_config.proofs.optional.value_in.Goals as goal

-- looking a name up in the map is looking it up in what the map represents
pub returns : goal.returns
returns c =
    view_of_ref c.get.result ∙ ap (option_map view) c.get.ensures.value ∙ view-lookup c.args.name.now c.members.result.now.entries
    ∙ ap (λ (es : List Entry). get_member c.args.name.now (members_view es)) c.members.ensures
