use Rattle.std.proofs.Common.{◌<◌, length, subst, arith}
use Rattle.serde_json.specs.View.{view}
use Rattle.serde_json.specs.declared.value.Value.{Value}
use Rattle.am_json.specs.Decoding.{IsObject}
use Rattle.am_config.proofs.Collecting.{each_more, some_read}
use Rattle.am_config.specs.Rules.{HasRule}
use Rattle.am_config.proofs.inhibit.read_rules.Goals as goal

pub loop-index-preserved : goal.loop-index-preserved
loop-index-preserved c =
    let l = c.loop-index in
    let values = c.in-Some-2.items.now in
    let value = c.index-items-index.result in
    let x = c.in-Some-3.rule in
    let here : l.index < length values = omega arith in
    each_more (IsObject HasRule) values l.index value x l.rules.items c.push.new.self.items c.args.faults.now l.faults c.read_rule.new.faults here c.index-items-index.is
    l.invariant
    (λ none.
    let read = c.in_ok-rule.ensures none in (
      read.0,
      subst (λ (v : Value). IsObject HasRule (view v) x) c.item.ensures.value
          (some_read (IsObject HasRule (view c.item.result.value)) c.in_ok-rule.field-0 x c.in-Some-3.is read.1),
    ))
    c.in_ok-push.ensures.items
