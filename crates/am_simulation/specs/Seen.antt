-- Seen: the label sets and the silence ids that were seen, while plans are gone through from the end.
use Rattle.std.specs.Prelude.{◌≡◌, ◌==◌, Bool, false, List}
use Rattle.std.specs.HashSet.{contains}
use Rattle.am_alerts.specs.Labels.{same_label_set}
use Rattle.am_simulation.specs.DispatcherChange.{is_replaced}
use Rattle.am_simulation.specs.declared.dispatcher_change.Seen.{Seen}
use Rattle.am_terms.specs.declared.rehearsal.Action.{Action}
use Rattle.am_terms.specs.declared.rehearsal.Action.TheVariants.{Insert, Silence, Load}
use Rattle.am_terms.specs.declared.rehearsal.TimedAction.{TimedAction}

-- whether an action's label set or id was seen
abbrev pub is_seen : Seen → Action → Bool
is_seen s (Insert alert) = contains same_label_set s.sets alert.labels
is_seen s (Silence silence) = contains (◌==◌) s.ids silence.id
is_seen s (Load row) = false

-- nothing was seen
abbrev pub SeesNothing : Seen → Type 0
SeesNothing s = (act : Action) → is_seen s act ≡ false

-- what was seen is that of these plans
abbrev pub SeesAll : List TimedAction → Seen → Type 0
SeesAll plans s = (act : Action) → is_seen s act ≡ is_replaced act plans
