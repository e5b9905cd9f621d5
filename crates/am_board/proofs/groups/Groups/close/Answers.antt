use Rattle.std.proofs.Common.{◌≡◌, false, refl, ap, sym, ◌∙◌}
use Rattle.indexmap.specs.IndexMap.{spare}
use Rattle.am_board.specs.declared.group.Group.{Group}
use Rattle.am_board.proofs.lemmas.insert.GroupSpace.{changes_at, lent_at}
use Rattle.am_board.proofs.lemmas.invariant.DueKeys.{tied_change}
use Rattle.am_board.specs.Empty.{is_bare}
use Rattle.am_board.proofs.lemmas.maintain.Empties.{counted_same}
use Rattle.am_board.proofs.groups.Groups.close.Goals as goal

-- its key is there again
pub invariant_of-self : goal.invariant_of-self
invariant_of-self c =
    let es = c.self.inside.groups.entries in
    let was = c.index_mut-group.result.now in
    let group = c.mark_closed.new.group in
    let called : c.args.name ≡ was.name =
    sym (ap (λ (g : Group). g.name) (lent_at es (spare c.self.inside.groups) c.args.self.now c.self.view_is c.args.i was c.index_mut-group.ensures.value) ∙ c.requires.name was) in (
      tied_change c.self.inside.due c.give_back.new.self es c.args.i was group c.args.name group.due c.self.invariant.0 c.index_mut-group.ensures.value
          called (ap (λ (g : Group). g.name) c.mark_closed.ensures) refl (λ closed. c.give_back.ensures.has) (λ key apart. c.give_back.ensures.keeps key),
      counted_same c.self.inside.empty c.self.inside.groups.entries c.args.i c.index_mut-group.result.now c.mark_closed.new.group c.self.invariant.1 c.index_mut-group.ensures.value (ap is_bare c.mark_closed.ensures),
    )

pub returns : goal.returns
returns c =
    changes_at c.self.inside.groups.entries (spare c.self.inside.groups) c.args.self.now c.self.view_is c.args.i c.index_mut-group.result.now c.index_mut-group.ensures.value
    (λ from to. to ≡ record from { is_open = false }) c.mark_closed.new.group (ap (λ (g : Group). g.name) c.mark_closed.ensures) (c.mark_closed.ensures)
