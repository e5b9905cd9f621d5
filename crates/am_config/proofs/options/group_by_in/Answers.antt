use Rattle.std.proofs.Common.{◌≡◌, ◌∙◌, ℕ, List, Some, subst, sym}
use Rattle.std.specs.Result.{result_ok}
use Rattle.serde_json.specs.Find.{as_array}
use Rattle.serde_json.specs.View.{items_view, view}
use Rattle.am_alerts.specs.declared.route.GroupBy.TheVariants.{Names}
use Rattle.am_config.proofs.Grouped.{groups_all, groups_names}
use Rattle.am_config.proofs.Matched.{array_kept}
use Rattle.am_config.specs.Routes.{IsGrouping}
use Rattle.am_config.proofs.options.group_by_in.Goals as goal

pub returns-then-are_all_labels : goal.returns-then-are_all_labels
returns-then-are_all_labels c = λ none.
    let array = as_array (view c.args.member.now.value) in
    let items = c.in-Some.items in
    let is : array ≡ Some (items_view items.now) =
    array_kept (result_ok c.array.result) c.in_ok-items.field-0 items array c.in_ok-items.ensures.kept c.in-Some.is c.array.ensures.items in (
      (c.in_ok-items.ensures.collects none).0,
      groups_all array items.now is (sym c.is_empty.ensures ∙ c.if-is_empty.false) (sym c.are_all_labels.ensures ∙ c.if-are_all_labels.true),
    )

pub returns : goal.returns
returns c = λ none.
    let array = as_array (view c.args.member.now.value) in
    let items = c.in-Some.items in
    let is : array ≡ Some (items_view items.now) =
    array_kept (result_ok c.array.result) c.in_ok-items.field-0 items array c.in_ok-items.ensures.kept c.in-Some.is c.array.ensures.items in
    let names = c.in_ok-names.ensures none in (
      (c.in_ok-items.ensures.collects names.0).0,
      subst (λ (ns : List (List ℕ)). IsGrouping (view c.args.member.now.value) (Some (Names ns))) (sym c.from.ensures)
          (groups_names array items.now c.in_ok-names.names.items is (sym c.is_empty.ensures ∙ c.if-is_empty.false)
          (sym c.are_all_labels.ensures ∙ c.if-are_all_labels.false) names.1),
    )
