use Rattle.std.proofs.Common.{ap, ◌∙◌, rules}
use Rattle.std.specs.List.{filter_map}
use Rattle.am_board.specs.Walk.{alert_there}
use Rattle.std.proofs.lemmas.Result.{IfOk-weaker}
use Rattle.am_board.proofs.lemmas.begin.MutedIndexes.{sorted_listed}
use Rattle.am_board.proofs.walk.in_group_order.Goals as goal

pub returns : goal.returns
returns c causes found =
    IfOk-weaker c.listed.result _ _
    (λ all h. h
    ∙ ap (filter_map (alert_there c.args.members.now)) c.as_slice.ensures.value
    ∙ sorted_listed causes c.args.members.now c.args.muted.items c.sort_unstable_by.new.self.items found
    c.sort_unstable_by.ensures.permutation c.sort_unstable_by.ensures.sorted (λ a r f' k. search rules))
    c.listed.ensures
