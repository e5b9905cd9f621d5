use Rattle.std.proofs.Common.{slice_get, ap, ◌∙◌}
use Rattle.std.specs.List.{filter_map}
use Rattle.std.proofs.lemmas.Result.{IfOk-weaker}
use Rattle.am_board.proofs.lemmas.invariant.Order.{members_there}
use Rattle.am_board.proofs.order.at_order.Goals as goal

pub returns : goal.returns
returns c =
    IfOk-weaker c.members_at.result _ _
    (λ found h. h ∙ ap (filter_map (slice_get c.args.members.now)) c.requires ∙ members_there c.args.members.now)
    c.members_at.ensures
