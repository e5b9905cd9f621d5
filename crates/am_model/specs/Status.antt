-- Status: why a label set is muted, and where it goes (the status of an alert in Alertmanager's API).
use Rattle.std.specs.Prelude.{ℕ, List, map}
use Rattle.am_alerts.specs.RoutingTree.{routes_of}
use Rattle.am_alerts.specs.Spans.{muted_at, muted_until}
use Rattle.am_alerts.specs.declared.labels.Label.{Label}
use Rattle.am_mute.specs.Causes.{mute_causes_of}
use Rattle.am_model.specs.Configured.{rules_of}
use Rattle.am_model.specs.State.{State, time}
use Rattle.am_model.specs.declared.config.Config.{Config}
use Rattle.am_model.specs.declared.status.LabelStatus.{LabelStatus}
use Rattle.am_model.specs.declared.status.RouteStatus.{RouteStatus}

-- the route at a position, with until when it is muted at t, if it is (Alertmanager's TimeMuteStage and TimeActiveStage)
abbrev pub route_status : Config → ℕ → ℕ → RouteStatus
route_status config t position = record { route = position; muted_until = muted_until (muted_at config.routes position) t }

-- all that mutes a label set at t, and each of its routes
abbrev pub label_status_at : Config → State → List Label → ℕ → LabelStatus
label_status_at config s labels t =
    record {
      time = t;
      mutes = mute_causes_of labels t s.silences (rules_of config) s.known;
      routes = map (route_status config t) (routes_of config.routes labels);
    }

-- the status of a label set where a call comes at now
abbrev pub label_status : Config → State → List Label → ℕ → LabelStatus
label_status config s labels now = label_status_at config s labels (time s now)
