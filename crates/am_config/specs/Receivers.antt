-- The receivers of an `alertmanager.yml`, and what their integrations are.
use Rattle.std.specs.Prelude.{◌≡◌, ◌≢◌, ◌++◌, List, [], ◌∷◌, ℕ, Bool, true, false, IsTrue, codes, map}
use Rattle.serde_json.specs.Data.{Data, Members}
use Rattle.am_json.specs.Decoding.{HasOr, IsList, IsObject}
use Rattle.am_json.specs.Read.{are_named}
use Rattle.am_model.specs.declared.config.Integration.{Integration}
use Rattle.am_model.specs.declared.config.Receiver.{Receiver}
use Rattle.am_settings.specs.declared.kinds.Kind.{Kind}
use Rattle.am_config.specs.Said.{IsScalar, IsSet, Says, SaysOr}

-- a kind of integrations: the field of a receiver that lists them, its name, and whether it sends resolved alerts where it says nothing
pub record KindData : Type 0 where
  pub list : List ℕ
  pub name : List ℕ
  pub sends_resolved : Bool

abbrev listed : List ℕ → List ℕ → Bool → KindData
listed list name sends_resolved = record { list = list; name = name; sends_resolved = sends_resolved }

-- the kinds in Alertmanager's order (buildReceiverIntegrations), with their defaults (config/notifiers.go)
abbrev pub kinds : List KindData
kinds =
    listed (codes "webhook_configs") (codes "webhook") true
    ∷ listed (codes "email_configs") (codes "email") false
    ∷ listed (codes "pagerduty_configs") (codes "pagerduty") true
    ∷ listed (codes "opsgenie_configs") (codes "opsgenie") true
    ∷ listed (codes "wechat_configs") (codes "wechat") false
    ∷ listed (codes "slack_configs") (codes "slack") false
    ∷ listed (codes "victorops_configs") (codes "victorops") true
    ∷ listed (codes "pushover_configs") (codes "pushover") true
    ∷ listed (codes "sns_configs") (codes "sns") true
    ∷ listed (codes "telegram_configs") (codes "telegram") true
    ∷ listed (codes "discord_configs") (codes "discord") true
    ∷ listed (codes "webex_configs") (codes "webex") true
    ∷ listed (codes "msteams_configs") (codes "msteams") true
    ∷ listed (codes "msteamsv2_configs") (codes "msteamsv2") true
    ∷ listed (codes "jira_configs") (codes "jira") true
    ∷ listed (codes "rocketchat_configs") (codes "rocketchat") false
    ∷ listed (codes "mattermost_configs") (codes "mattermost") true
    ∷ listed (codes "incidentio_configs") (codes "incidentio") true
    ∷ []

-- a kind as the code has it
abbrev pub kind_in : Kind → KindData
kind_in k = record { list = k.list.now; name = k.name.now; sends_resolved = k.send_resolved }

-- settings decode to an integration of a kind
pub record HasIntegration (k : KindData) (settings : Members) (i : Integration) : Type 0 where
  pub kind : i.kind ≡ k.name
  pub send_resolved : HasOr IsSet k.sends_resolved (codes "send_resolved") settings i.send_resolved

-- the list of a kind decodes to these integrations, in its order
abbrev pub HasList : KindData → Members → List Integration → Type 0
HasList k members is = SaysOr (IsList (IsObject (HasIntegration k))) [] k.list members is

-- the lists of these kinds decode to these integrations: all of the first kind, then all of the next
abbrev pub HasLists : List KindData → Members → List Integration → Type 0
HasLists [] _ is = is ≡ []
HasLists (k ∷ ks) settings is = (own rest : List Integration) × (is ≡ own ++ rest) × HasList k settings own × HasLists ks settings rest

-- the fields of a receiver
abbrev pub receiver_fields : List (List ℕ)
receiver_fields = codes "name" ∷ map (λ k. k.list) kinds

-- the fields decode to a receiver
pub record HasReceiver (members : Members) (r : Receiver) : Type 0 where
  pub known : IsTrue (are_named receiver_fields members)
  pub name : Says IsScalar (codes "name") members r.name
  pub named : r.name ≢ []
  pub integrations : HasLists kinds members r.integrations

-- the fields of an `alertmanager.yml` decode to these receivers, in its order
abbrev pub HasReceivers : Members → List Receiver → Type 0
HasReceivers members receivers = SaysOr (IsList (IsObject HasReceiver)) [] (codes "receivers") members receivers

-- the receivers of an `alertmanager.yml`'s value
abbrev pub ReceiversAre : Data → List Receiver → Type 0
ReceiversAre value receivers = IsObject HasReceivers value receivers
