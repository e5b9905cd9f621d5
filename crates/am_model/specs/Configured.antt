-- Configured: a group's route, receiver and integrations in a configuration, and when its log rows expire (retention).
use Rattle.std.specs.Prelude.{ℕ, ◌+◌, ◌*◌, ◌≤◌, min, codes, decimal, All, List, [], ◌∷◌, ◌++◌, length, Option, if◌then◌else◌}
use Rattle.std.specs.List.{enumerate_from}
use Rattle.std.specs.Str.{bytes_eq}
use Rattle.am_alerts.specs.RoutingTree.{route_at}
use Rattle.am_alerts.specs.Spans.{muted_at, muted_until}
use Rattle.am_alerts.specs.declared.route.Route.{Route}
use Rattle.am_mute.specs.Inhibit.{RuleData}
use Rattle.am_model.specs.Config.{kind_at}
use Rattle.am_model.specs.declared.config.Config.{Config}
use Rattle.am_model.specs.declared.config.Integration.{Integration}
use Rattle.am_model.specs.declared.config.Receiver.{Receiver}
use Rattle.am_model.specs.declared.config.TheConstants.{MAX_INTEGRATIONS}
use Rattle.am_model.specs.declared.group.GroupName.{GroupName}

-- the inhibition rules of a configuration
abbrev pub rules_of : Config → List RuleData
rules_of config = config.rules

-- the route of a group
abbrev pub route_of : Config → GroupName → Route
route_of config name = route_at config.routes name.route

-- until when a group's route is muted at t, if it is (Alertmanager's TimeMuteStage and TimeActiveStage)
abbrev pub route_muted : Config → GroupName → ℕ → Option ℕ
route_muted config name t = muted_until (muted_at config.routes name.route) t

-- the integrations of the receiver of this name
abbrev pub integrations_named : List ℕ → List Receiver → List Integration
integrations_named name [] = []
integrations_named name (r ∷ rs) = if bytes_eq r.name name then r.integrations else integrations_named name rs

-- no receiver has more integrations than a receiver may have
abbrev pub HaveFewIntegrations : Config → Type 0
HaveFewIntegrations config = All (λ r. length r.integrations ≤ MAX_INTEGRATIONS) config.receivers

-- the integrations of a group's receiver, each with its position
abbrev pub integrations_of : Config → GroupName → List (ℕ × Integration)
integrations_of config name = enumerate_from 0 (integrations_named (route_of config name).receiver config.receivers)

-- an integration of a group's receiver: its kind, `/` and its position
abbrev pub integration_text : Config → GroupName → ℕ → List ℕ
integration_text config name position =
    kind_at (integrations_named (route_of config name).receiver config.receivers) position ++ codes "/" ++ decimal position

-- the expiry of a log row of a group at t: twice the repeat interval later, or the retention if that is less (Alertmanager's
-- SetNotifiesStage)
abbrev pub expiry_at : Config → GroupName → ℕ → ℕ
expiry_at config name t = t + min config.retention (2 * (route_of config name).repeat_interval)
