use Rattle.std.proofs.Common.{◌<◌, ◌∙◌, ap, arith, length}
use Rattle.serde_json.specs.View.{items_view, view}
use Rattle.serde_json.specs.Written.{items_have_float}
use Rattle.am_timeline.specs.Json.{muted_alert_data}
use Rattle.am_timeline.proofs.Members.{map_next, pushed_without_float}
use Rattle.am_timeline.proofs.json.object.muted_list.Goals as goal

pub loop-alert-preserved : goal.loop-alert-preserved
loop-alert-preserved c =
    let old = c.loop-alert.list.items in
    let added = c.in_ok-muted_alert.field-0 in
    let within : c.loop-alert.alert-index < length c.args.muted.now = omega (arith, c.loop-alert-test.true) in
    record {
      list = map_next muted_alert_data view old c.push.new.self.items added c.args.muted.now c.loop-alert.alert-index
          c.alert-item.result c.alert-item.result within c.alert-item.is
          (c.in_ok-muted_alert.ensures.value) c.loop-alert.invariant.list c.in_ok-push.ensures.items;
      no_float = ap (λ vs. items_have_float (items_view vs)) c.in_ok-push.ensures.items
          ∙ pushed_without_float old added c.loop-alert.invariant.no_float c.in_ok-muted_alert.ensures.no_float;
    }
