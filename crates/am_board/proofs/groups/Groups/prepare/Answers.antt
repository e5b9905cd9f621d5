use Rattle.std.proofs.Common.{ap}
use Rattle.indexmap.specs.IndexMap.{spare}
use Rattle.am_board.specs.declared.group.Group.{Group}
use Rattle.am_board.proofs.lemmas.begin.PlannedFlushes.{members-apart}
use Rattle.am_board.proofs.lemmas.insert.GroupSpace.{lent_at, same_at}
use Rattle.am_board.proofs.lemmas.invariant.DueKeys.{tied_same}
use Rattle.am_board.specs.Empty.{is_bare}
use Rattle.am_board.proofs.lemmas.maintain.Empties.{counted_same}
use Rattle.am_board.proofs.groups.Groups.prepare.Goals as goal

pub prepare-requires : goal.prepare-requires
prepare-requires c =
    members-apart c.args.self.now.items c.args.i c.index_mut.result.now c.requires.apart c.requires.index
    (lent_at c.self.inside.groups.entries (spare c.self.inside.groups) c.args.self.now c.self.view_is c.args.i c.index_mut.result.now c.index_mut.ensures.value)

pub invariant_of-self : goal.invariant_of-self
invariant_of-self c = (
  tied_same c.self.inside.due c.self.inside.groups.entries c.args.i c.index_mut.result.now c.prepare.new.group c.self.invariant.0 c.index_mut.ensures.value
      (ap (λ (g : Group). g.name) c.prepare.ensures.group) (ap (λ (g : Group). g.due) c.prepare.ensures.group) (ap (λ (g : Group). g.is_open) c.prepare.ensures.group),
  counted_same c.self.inside.empty c.self.inside.groups.entries c.args.i c.index_mut.result.now c.prepare.new.group c.self.invariant.1 c.index_mut.ensures.value (ap is_bare c.prepare.ensures.group),
)

pub returns-clause-groups : goal.returns-clause-groups
returns-clause-groups c =
    same_at c.self.inside.groups.entries (spare c.self.inside.groups) c.args.self.now c.self.view_is c.args.i c.index_mut.result.now c.index_mut.ensures.value c.prepare.new.group c.prepare.ensures.group
