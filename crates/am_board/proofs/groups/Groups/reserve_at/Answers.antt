use Rattle.std.proofs.Common.{ap, sym, subst}
use Rattle.indexmap.specs.IndexMap.{spare}
use Rattle.am_model.specs.State.{GroupState}
use Rattle.am_board.specs.declared.group.Group.{Group}
use Rattle.am_board.proofs.lemmas.insert.GroupSpace.{changes_at, written_at}
use Rattle.am_board.proofs.lemmas.invariant.DueKeys.{tied_same}
use Rattle.am_board.specs.Group.{Fits, IsReserved}
use Rattle.std.proofs.lemmas.Result.{on_ok_weaker}
use Rattle.am_model.specs.Maintenance.{has_no_alerts}
use Rattle.am_board.proofs.lemmas.maintain.Empties.{bare-states, counted_same}
use Rattle.am_board.proofs.groups.Groups.reserve_at.Goals as goal

pub invariant_of-self : goal.invariant_of-self
invariant_of-self c = (
  tied_same c.self.inside.due c.self.inside.groups.entries c.args.i c.index_mut.result.now c.reserve_members.new.group c.self.invariant.0 c.index_mut.ensures.value (c.reserve_members.ensures.kept.name) (ap (λ (g : GroupState). g.due) c.reserve_members.ensures.kept.state) c.reserve_members.ensures.kept.is_open,
  counted_same c.self.inside.empty c.self.inside.groups.entries c.args.i c.index_mut.result.now c.reserve_members.new.group c.self.invariant.1 c.index_mut.ensures.value (bare-states c.reserve_members.new.group c.index_mut.result.now (ap has_no_alerts c.reserve_members.ensures.kept.state)),
)

pub returns-clause-kept : goal.returns-clause-kept
returns-clause-kept c =
    changes_at c.self.inside.groups.entries (spare c.self.inside.groups) c.args.self.now c.self.view_is c.args.i c.index_mut.result.now c.index_mut.ensures.value
    IsReserved c.reserve_members.new.group (c.reserve_members.ensures.kept.name) (c.reserve_members.ensures.kept)

pub returns-clause-space : goal.returns-clause-space
returns-clause-space c =
    let there = λ (d : Group). written_at c.self.inside.groups.entries (spare c.self.inside.groups) c.args.self.now c.self.view_is c.args.i c.index_mut.result.now c.index_mut.ensures.value c.reserve_members.new.group d in
    on_ok_weaker c.reserve_members.result (λ fits d. subst (Fits c.args.more) (sym (there d)) fits) c.reserve_members.ensures.space
