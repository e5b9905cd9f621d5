use Rattle.std.proofs.Common.{◌≡◌, ◌<◌, ◌∙◌, ℕ, List, false, length, subst, sym, arith}
use Rattle.std.specs.List.{list_any}
use Rattle.std.specs.Str.{bytes_eq}
use Rattle.serde_json.specs.View.{view}
use Rattle.serde_json.specs.declared.value.Value.{Value}
use Rattle.am_config.proofs.Collecting.{ok_kept}
use Rattle.am_config.proofs.Grouped.{labels_more}
use Rattle.am_config.specs.Rules.{IsLabelName}
use Rattle.am_config.proofs.options.read_names.Goals as goal

pub loop-index-preserved : goal.loop-index-preserved
loop-index-preserved c =
    let l = c.loop-index in
    let values = c.args.items.now in
    let value = c.index-items-index.result in
    let name = c.in-Some.name in
    let here : l.index < length values = omega arith in
    let is = sym c.in-Some.is ∙ c.in_ok-name.ensures.kept in
    let Further = λ (before : List (List ℕ)) (n : List ℕ). list_any (λ known. bytes_eq known n) before ≡ false in
    labels_more values l.index value name l.names.items c.push.new.self.items c.args.faults.now l.faults c.keep.new.faults here c.index-items-index.is
    l.invariant
    (λ none. (
      (c.in_ok-name.ensures.collects none).0,
      (
        subst (λ (v : Value). IsLabelName (view v) name) c.item-item.ensures.value
            (ok_kept (IsLabelName (view c.item-item.result.value)) c.further_name.result name is c.further_name.ensures.name),
        subst (λ before. Further before name) c.as_slice.ensures.value
            (ok_kept (Further c.as_slice.result.now) c.further_name.result name is c.further_name.ensures.further),
      ),
    ))
    c.in_ok-push.ensures.items
