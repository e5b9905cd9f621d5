-- Answer: the JSON tokens of what answers say.
use Rattle.std.specs.Prelude.{ℕ, Bool, List, [], ◌∷◌, ◌++◌, codes, decimal, Option, None, Some}
use Rattle.std.specs.List.{flat_map}
use Rattle.json.specs.Token.{Token, begin_object, end_object, begin_array, end_array, key, string, number, boolean, null}
use Rattle.am_alerts.specs.AlertData.{AlertData}
use Rattle.am_alerts.specs.declared.labels.Label.{Label}
use Rattle.am_model.specs.declared.config.Config.{Config}
use Rattle.am_model.specs.declared.group.GroupName.{GroupName}
use Rattle.am_model.specs.Config.{kind_at}
use Rattle.am_model.specs.Configured.{route_of, integrations_named}
use Rattle.am_model.specs.Notice.{NoticeData}

-- a member that is a text
abbrev pub text_member : List ℕ → List ℕ → List Token
text_member name text = key name ∷ string text ∷ []

-- a member that is a number
abbrev pub number_member : List ℕ → ℕ → List Token
number_member name n = key name ∷ number (decimal n) ∷ []

-- a member that is `true` or `false`
abbrev pub flag_member : List ℕ → Bool → List Token
flag_member name flag = key name ∷ boolean flag ∷ []

-- an object of these members
abbrev pub object : List Token → List Token
object members = begin_object ∷ members ++ end_object ∷ []

-- an array of these values
abbrev pub array : {T : Type 0} → (T → List Token) → List T → List Token
array tokens values = begin_array ∷ flat_map tokens values ++ end_array ∷ []

-- a number, or `null` for none
abbrev pub optional_number : Option ℕ → List Token
optional_number None = null ∷ []
optional_number (Some n) = number (decimal n) ∷ []

-- a label set: an object of its names and values
abbrev pub labels_tokens : List Label → List Token
labels_tokens labels = object (flat_map (λ l. text_member l.name l.value) labels)

-- a group: its route and its group labels
abbrev pub group_tokens : Config → GroupName → List Token
group_tokens config group =
    object (text_member (codes "route") (route_of config group).name ++ key (codes "labels") ∷ labels_tokens group.labels)

-- what is answered about an alert: its labels, its start and its end
abbrev pub alert_members : AlertData → List Token
alert_members a =
    key (codes "labels") ∷ labels_tokens a.labels ++ number_member (codes "starts") a.starts
    ++ key (codes "ends") ∷ optional_number a.ends

-- an alert
abbrev pub alert_tokens : AlertData → List Token
alert_tokens a = object (alert_members a)

-- an integration of a group's receiver: its position and its kind
abbrev pub integration_members : Config → GroupName → ℕ → List Token
integration_members config group position =
    number_member (codes "integration") position
    ++ text_member (codes "kind") (kind_at (integrations_named (route_of config group).receiver config.receivers) position)

-- what fires and what is resolved
abbrev pub content_members : List AlertData → List AlertData → List Token
content_members firing resolved =
    key (codes "firing") ∷ array alert_tokens firing ++ key (codes "resolved") ∷ array alert_tokens resolved

-- what is sent to an integration of a group's receiver
abbrev pub sent_tokens : Config → GroupName → ℕ → List AlertData → List AlertData → List Token
sent_tokens config group integration firing resolved =
    object (integration_members config group integration ++ content_members firing resolved)

-- a notice
abbrev pub notice_tokens : Config → NoticeData → List Token
notice_tokens config n = sent_tokens config n.group n.integration n.firing n.resolved
