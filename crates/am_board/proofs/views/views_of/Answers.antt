use Rattle.std.specs.List.{IsDistinct}
use Rattle.std.proofs.Common.{arith}
use Rattle.am_model.specs.Insert.{same_member}
use Rattle.am_model.specs.State.{GroupState}
use Rattle.am_board.proofs.lemmas.invariant.Shown.{at_index}
use Rattle.am_board.proofs.views.views_of.Goals as goal

pub group_view-requires : goal.group_view-requires
group_view-requires c =
    at_index (λ (g : GroupState). IsDistinct same_member g.members) c.args.groups.now c.loop-group.group-index c.group-item.result c.requires (omega arith) c.group-item.is
