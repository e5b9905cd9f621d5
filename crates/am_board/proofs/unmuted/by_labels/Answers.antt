use Rattle.std.proofs.Common.{◌∙◌, rules}
use Rattle.am_model.proofs.states.InOrder.{sorted_by_labels}
use Rattle.am_board.proofs.unmuted.by_labels.Goals as goal

pub returns : goal.returns
returns c apart =
    c.from.ensures ∙ sorted_by_labels c.args.alerts.items c.sort_unstable_by.new.self.items c.sort_unstable_by.ensures.permutation c.sort_unstable_by.ensures.sorted (λ a r f' k. search rules) apart
