use Rattle.std.proofs.Common.{◌<◌, length, subst, arith}
use Rattle.serde_json.specs.View.{view}
use Rattle.serde_json.specs.declared.value.Value.{Value}
use Rattle.am_json.specs.Decoding.{IsObject}
use Rattle.am_config.proofs.Collecting.{each_more, some_read}
use Rattle.am_config.specs.Receivers.{HasReceiver}
use Rattle.am_config.proofs.receiver.read_receivers.Goals as goal

pub loop-index-preserved : goal.loop-index-preserved
loop-index-preserved c =
    let l = c.loop-index in
    let values = c.in-Some-2.items.now in
    let value = c.index-items-index.result in
    let x = c.in-Some-3.receiver in
    let here : l.index < length values = omega arith in
    each_more (IsObject HasReceiver) values l.index value x l.receivers.items c.push.new.self.items c.args.faults.now l.faults c.read_receiver.new.faults here
    c.index-items-index.is l.invariant
    (λ none.
    let read = c.in_ok-receiver.ensures none in (
      read.0,
      subst (λ (v : Value). IsObject HasReceiver (view v) x) c.item-item.ensures.value
          (some_read (IsObject HasReceiver (view c.item-item.result.value)) c.in_ok-receiver.field-0 x c.in-Some-3.is read.1),
    ))
    c.in_ok-push.ensures.items
