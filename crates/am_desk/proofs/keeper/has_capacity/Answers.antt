use Rattle.std.proofs.Common.{◌<◌, ◌^◌, sym, subst}
use Rattle.am_model.specs.declared.config.Config.{Config}
use Rattle.am_desk.specs.Glances.{pairs_within}
use Rattle.am_desk.proofs.Packing.{pairs_fit}
use Rattle.am_desk.proofs.keeper.has_capacity.Goals as goal

pub most_calls-most-requires : goal.most_calls-most-requires
most_calls-most-requires c =
    subst (λ (x : Config). pairs_within x.limits < 2 ^ 64) (sym c.config-config.ensures.config) (pairs_fit c.args.board.now.config.limits _ c.requires.1)
