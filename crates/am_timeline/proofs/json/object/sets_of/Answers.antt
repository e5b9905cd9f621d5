use Rattle.std.proofs.Common.{◌<◌, ◌∙◌, ap, arith, length}
use Rattle.serde_json.specs.View.{items_view, view}
use Rattle.serde_json.specs.Written.{items_have_float}
use Rattle.am_alerts.specs.AlertData.{AlertData}
use Rattle.am_timeline.specs.Json.{set_data}
use Rattle.am_timeline.specs.Timeline.{labels_of}
use Rattle.am_timeline.proofs.Members.{map_next, pushed_without_float}
use Rattle.am_timeline.proofs.json.object.sets_of.Goals as goal

pub loop-alert-preserved : goal.loop-alert-preserved
loop-alert-preserved c =
    let old = c.loop-alert.sets.items in
    let added = c.in_ok-set_of.field-0 in
    let within : c.loop-alert.alert-index < length c.args.alerts.now = omega (arith, c.loop-alert-test.true) in
    record {
      sets = map_next (λ (a : AlertData). set_data (labels_of a)) view old c.push.new.self.items added c.args.alerts.now
          c.loop-alert.alert-index c.alert-item.result c.alert-item.result within c.alert-item.is
          (c.in_ok-set_of.ensures.value ∙ ap set_data c.labels.ensures.labels) c.loop-alert.invariant.sets c.in_ok-push.ensures.items;
      no_float = ap (λ vs. items_have_float (items_view vs)) c.in_ok-push.ensures.items
          ∙ pushed_without_float old added c.loop-alert.invariant.no_float c.in_ok-set_of.ensures.no_float;
    }
