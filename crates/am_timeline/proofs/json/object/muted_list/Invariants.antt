use Rattle.std.proofs.Common.{◌≡◌, false, map, take}
use Rattle.serde_json.specs.View.{items_view, view}
use Rattle.serde_json.specs.Written.{items_have_float}
use Rattle.am_timeline.specs.Json.{muted_alert_data}
use Rattle.am_timeline.proofs.json.object.muted_list.Given as goal

-- those so far are the muted alerts so far, and none has a float
abbrev pub invariant-loop-alert : goal.invariant-loop-alert
invariant-loop-alert l = record {
  list : map view l.list.items ≡ map muted_alert_data (take l.alert-index l.muted);
  no_float : items_have_float (items_view l.list.items) ≡ false;
}
