-- Config: which configurations are valid, and the first fault of one that isn't.
use Rattle.std.specs.Prelude.{ℕ, ◌≤◌, Bool, not, ◌&&◌, ◌||◌, ◌==◌, nat_lt, nat_le, List, [], length, Option}
use Rattle.std.specs.Prelude.{Some, None, slice_get, unwrap_or, if◌then◌else◌}
use Rattle.std.specs.List.{list_all, list_any}
use Rattle.std.specs.Option.{option_map, option_or}
use Rattle.am_alerts.specs.Labels.{is_label_name}
use Rattle.am_alerts.specs.RoutingTree.{routes_in}
use Rattle.am_alerts.specs.declared.limits.TheConstants.{MAX_DURATION}
use Rattle.am_model.specs.declared.config.Config.{Config}
use Rattle.am_model.specs.declared.config.ConfigFault.{ConfigFault}
use Rattle.am_model.specs.declared.config.ConfigFault.TheVariants.{UnknownReceiver, ReceiverTwice, TooManyReceivers, TooManyIntegrations}
use Rattle.am_model.specs.declared.config.ConfigFault.TheVariants.{BadKind, TooManyRules, BadRetention, BadLimit}
use Rattle.am_model.specs.declared.config.Integration.{Integration}
use Rattle.am_model.specs.declared.config.Limits.{Limits}
use Rattle.am_model.specs.declared.config.Receiver.{Receiver}
use Rattle.am_model.specs.declared.config.TheConstants.{MAX_RECEIVERS, MAX_INTEGRATIONS, MAX_RULES, MAX_ALERTS, MAX_GROUPS, MAX_SILENCES}
use Rattle.am_model.specs.declared.config.TheConstants.{MAX_FLUSHES, MAX_HISTORY}
pub use Rattle.am_model.specs.Receivers.{has_receiver, has_receiver_twice}

-- the limits of a small dispatcher
abbrev pub default_limits : Limits
default_limits = record { alerts = 65_536; groups = 4_096; silences = 1_024; flushes = 64; history = 1_048_576 }

-- the limits where none is lowered
abbrev pub greatest_limits : Limits
greatest_limits = record { alerts = MAX_ALERTS; groups = MAX_GROUPS; silences = MAX_SILENCES; flushes = MAX_FLUSHES; history = MAX_HISTORY }

-- a limit from 1 to its greatest value
abbrev pub IsWithin : ℕ → ℕ → Type 0
IsWithin limit most = (1 ≤ limit) × (limit ≤ most)

-- each limit is at least 1 and at most its greatest value
pub record AreAllowed (limits : Limits) : Type 0 where
  pub alerts : IsWithin limits.alerts MAX_ALERTS
  pub groups : IsWithin limits.groups MAX_GROUPS
  pub silences : IsWithin limits.silences MAX_SILENCES
  pub flushes : IsWithin limits.flushes MAX_FLUSHES
  pub history : IsWithin limits.history MAX_HISTORY

-- whether a limit is at least 1 and at most its greatest value
abbrev pub is_within : ℕ → ℕ → Bool
is_within limit most = nat_le 1 limit && nat_le limit most

-- whether each limit is
abbrev pub are_allowed : Limits → Bool
are_allowed limits =
    is_within limits.alerts MAX_ALERTS && is_within limits.groups MAX_GROUPS && is_within limits.silences MAX_SILENCES
    && is_within limits.flushes MAX_FLUSHES && is_within limits.history MAX_HISTORY

-- whether each route's receiver is there
abbrev pub has_receivers : Config → Bool
has_receivers config = list_all (λ r. has_receiver config.receivers r.receiver) (routes_in config.routes)

-- whether a receiver has more integrations than it may
abbrev pub has_many_integrations : Receiver → Bool
has_many_integrations r = nat_lt MAX_INTEGRATIONS (length r.integrations)

-- whether the kind of each integration of a receiver has the form of a label name
abbrev pub has_good_kinds : Receiver → Bool
has_good_kinds r = list_all (λ i. is_label_name i.kind) r.integrations

-- why the receivers are refused; the first cause that holds
abbrev pub receivers_fault : Config → Option ConfigFault
receivers_fault config =
    if not (has_receivers config) then Some UnknownReceiver
    else (if has_receiver_twice config.receivers then Some ReceiverTwice
    else (if nat_lt MAX_RECEIVERS (length config.receivers) then Some TooManyReceivers
    else (if list_any has_many_integrations config.receivers then Some TooManyIntegrations
    else (if not (list_all has_good_kinds config.receivers) then Some BadKind else None))))

-- whether a retention is zero or above its greatest value
abbrev pub is_bad_retention : ℕ → Bool
is_bad_retention retention = (retention == 0) || nat_lt MAX_DURATION retention

-- why the rules, the retention or the limits are refused; the first cause that holds
abbrev pub bounds_fault : Config → Option ConfigFault
bounds_fault config =
    if nat_lt MAX_RULES (length config.rules) then Some TooManyRules
    else (if is_bad_retention config.retention then Some BadRetention
    else (if not (are_allowed config.limits) then Some BadLimit else None))

-- why a configuration is refused
abbrev pub config_fault : Config → Option ConfigFault
config_fault config = option_or (receivers_fault config) (bounds_fault config)

-- the kind of the integration at a position; none at a position that isn't there
abbrev pub kind_at : List Integration → ℕ → List ℕ
kind_at integrations position = unwrap_or (option_map (λ i. i.kind) (slice_get integrations position)) []
