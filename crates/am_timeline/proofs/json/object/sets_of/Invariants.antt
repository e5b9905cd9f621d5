use Rattle.std.proofs.Common.{◌≡◌, false, map, take}
use Rattle.serde_json.specs.View.{items_view, view}
use Rattle.serde_json.specs.Written.{items_have_float}
use Rattle.am_timeline.specs.Json.{set_data}
use Rattle.am_timeline.specs.Timeline.{labels_of}
use Rattle.am_timeline.proofs.json.object.sets_of.Given as goal

-- those so far are the label sets of the alerts so far, and none has a float
abbrev pub invariant-loop-alert : goal.invariant-loop-alert
invariant-loop-alert l = record {
  sets : map view l.sets.items ≡ map (λ a. set_data (labels_of a)) (take l.alert-index l.alerts);
  no_float : items_have_float (items_view l.sets.items) ≡ false;
}
