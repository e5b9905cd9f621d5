-- Status: the JSON tokens of the answer to a line that asks the status of a label set.
use Rattle.std.specs.Prelude.{ℕ, List, ◌∷◌, ◌++◌, codes}
use Rattle.json.specs.Token.{Token, key}
use Rattle.am_alerts.specs.RoutingTree.{route_at}
use Rattle.am_mute.specs.declared.mute.MuteCause.{MuteCause}
use Rattle.am_model.specs.declared.config.Config.{Config}
use Rattle.am_model.specs.declared.status.LabelStatus.{LabelStatus}
use Rattle.am_model.specs.declared.status.RouteStatus.{RouteStatus}
use Rattle.am_protocol.specs.Answer.{array, number_member, object, optional_number, text_member}
use Rattle.am_protocol.specs.Reply.{named}
use Rattle.am_protocol.specs.View.{cause_members}

-- a silence or a rule that mutes the label set
abbrev pub cause_tokens : MuteCause → List Token
cause_tokens cause = object (cause_members cause)

-- a route by its name, with until when it is muted, or null
abbrev pub route_status_tokens : Config → RouteStatus → List Token
route_status_tokens config r =
    object (text_member (codes "route") (route_at config.routes r.route).name ++ key (codes "muted_until") ∷ optional_number r.muted_until)

-- the time, all that mutes the label set, and its routes
abbrev pub status_members : Config → ℕ → List MuteCause → List RouteStatus → List Token
status_members config time mutes routes =
    number_member (codes "now") time ++ key (codes "muted") ∷ array cause_tokens mutes
    ++ key (codes "routes") ∷ array (route_status_tokens config) routes

-- the status of a label set
abbrev pub status_tokens : Config → LabelStatus → List Token
status_tokens config s = named (codes "status") (status_members config s.time s.mutes s.routes)
