use Rattle.std.proofs.Common.{rules, sym, ap, ◌∙◌, subst}
use Rattle.std.specs.List.{IsDistinct}
use Rattle.am_model.specs.Finish.{same_key}
use Rattle.am_model.specs.Lists.{in_order}
use Rattle.am_model.specs.Views.{row_cmp}
use Rattle.am_model.proofs.states.InOrder.{sorted_by_row_key}
use Rattle.am_board.proofs.views.rows_of.Goals as goal

pub returns : goal.returns
returns c =
    sorted_by_row_key c.in_ok-rows.rows.items c.sort_unstable_by.new.self.items c.sort_unstable_by.ensures.permutation c.sort_unstable_by.ensures.sorted (λ a r f' k. search rules)
    (subst (IsDistinct same_key) (sym c.in_ok-rows.ensures) c.requires.rows)
    ∙ ap (in_order row_cmp) c.in_ok-rows.ensures
