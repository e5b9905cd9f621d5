use Rattle.std.proofs.Common.{◌≡◌, true, true≢false, ap}
use Rattle.indexmap.specs.IndexMap.{spare}
use Rattle.am_board.specs.declared.group.Group.{Group}
use Rattle.am_board.proofs.lemmas.insert.GroupSpace.{changes_at}
use Rattle.am_board.proofs.lemmas.invariant.DueKeys.{tied_change}
use Rattle.am_board.specs.Empty.{is_bare}
use Rattle.am_board.proofs.lemmas.maintain.Empties.{counted_same}
use Rattle.am_board.proofs.groups.Groups.begin.Goals as goal

-- a group with an open flush
abbrev opened : Group → Group
opened g = record g { is_open = true }

-- its key went
pub invariant_of-self : goal.invariant_of-self
invariant_of-self c = (
  tied_change c.self.inside.due c.lend.new.self c.self.inside.groups.entries c.args.i c.index_mut-group.result.now (opened c.mark_begun.new.group) c.mark_begun.new.group.name c.args.due c.self.invariant.0 c.index_mut-group.ensures.value
      (ap (λ (g : Group). g.name) c.mark_begun.ensures) (ap (λ (g : Group). g.name) c.mark_begun.ensures) (ap (λ (g : Group). g.due) c.mark_begun.ensures) (λ closed. absurd (true≢false closed)) c.lend.ensures,
  counted_same c.self.inside.empty c.self.inside.groups.entries c.args.i c.index_mut-group.result.now (opened c.mark_begun.new.group) c.self.invariant.1 c.index_mut-group.ensures.value (ap is_bare c.mark_begun.ensures),
)

pub returns : goal.returns
returns c =
    changes_at c.self.inside.groups.entries (spare c.self.inside.groups) c.args.self.now c.self.view_is c.args.i c.index_mut-group.result.now c.index_mut-group.ensures.value
    (λ from to. to ≡ record from { due = c.args.due; flushed = true; is_open = true }) (opened c.mark_begun.new.group) (ap (λ (g : Group). g.name) c.mark_begun.ensures) (ap opened c.mark_begun.ensures)
