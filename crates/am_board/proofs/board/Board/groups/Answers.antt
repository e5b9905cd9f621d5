use Rattle.std.proofs.Common.{◌≡◌, List, subst}
use Rattle.std.specs.Prelude.{IfOk}
use Rattle.am_model.specs.declared.views.GroupView.{GroupView}
use Rattle.am_board.proofs.lemmas.invariant.Calls.{groups_at, few_views}
use Rattle.am_board.proofs.lemmas.invariant.Sound.{consistent_now}
use Rattle.am_board.proofs.board.Board.groups.Goals as goal

pub groups_of-requires : goal.groups_of-requires
groups_of-requires c = consistent_now c.self.inside c.self.invariant

pub returns-clause-groups : goal.returns-clause-groups
returns-clause-groups c =
    subst (λ (shown : List GroupView). IfOk c.groups_of.result (λ groups. groups.items ≡ shown)) (groups_at c.self.inside c.self.invariant c.args.self.now c.self.view_is)
    c.groups_of.ensures

pub returns-clause-within : goal.returns-clause-within
returns-clause-within c =
    few_views c.self.inside c.self.invariant c.args.self.now c.self.view_is c.groups_of.result c.groups_of.ensures
