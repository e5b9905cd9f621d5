use Rattle.std.proofs.Common.{◌<◌, ◌∙◌, length, subst, sym, arith}
use Rattle.serde_json.specs.View.{view}
use Rattle.serde_json.specs.declared.value.Value.{Value}
use Rattle.am_config.proofs.Collecting.{each_more, ok_kept}
use Rattle.am_config.specs.Rules.{IsLabelName}
use Rattle.am_config.proofs.inhibit.read_equal.Goals as goal

pub loop-index-preserved : goal.loop-index-preserved
loop-index-preserved c =
    let l = c.loop-index in
    let values = c.in-Some-2.items.now in
    let value = c.index-items-index.result in
    let x = c.in-Some-3.name in
    let here : l.index < length values = omega arith in
    each_more IsLabelName values l.index value x l.names.items c.push.new.self.items c.args.faults.now l.faults c.keep.new.faults here c.index-items-index.is
    l.invariant
    (λ none. (
      (c.in_ok-name.ensures.collects none).0,
      subst (λ (v : Value). IsLabelName (view v) x) c.item.ensures.value
          (ok_kept (IsLabelName (view c.item.result.value)) c.label_name.result x (sym c.in-Some-3.is ∙ c.in_ok-name.ensures.kept) c.label_name.ensures),
    ))
    c.in_ok-push.ensures.items
