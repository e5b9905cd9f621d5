use Rattle.std.proofs.Common.{◌<◌, length, subst, arith}
use Rattle.serde_json.specs.View.{view}
use Rattle.serde_json.specs.declared.value.Value.{Value}
use Rattle.am_json.specs.Decoding.{IsObject}
use Rattle.am_config.proofs.Collecting.{each_more, some_read}
use Rattle.am_config.specs.Receivers.{HasIntegration, kind_in}
use Rattle.am_config.proofs.receiver.read_list.Goals as goal

pub loop-index-preserved : goal.loop-index-preserved
loop-index-preserved c =
    let l = c.loop-index in
    let values = c.in-Some-2.items.now in
    let value = c.index-items-index.result in
    let x = c.in-Some-3.integration in
    let Is = IsObject (HasIntegration (kind_in c.args.kind.now)) in
    let here : l.index < length values = omega arith in
    each_more Is values l.index value x l.integrations.items c.push.new.self.items c.args.faults.now l.faults c.read_integration.new.faults here c.index-items-index.is
    l.invariant
    (λ none.
    let read = c.in_ok-integration.ensures none in (
      read.0,
      subst (λ (v : Value). Is (view v) x) c.item-item.ensures.value
          (some_read (Is (view c.item-item.result.value)) c.in_ok-integration.field-0 x c.in-Some-3.is read.1),
    ))
    c.in_ok-push.ensures.items
