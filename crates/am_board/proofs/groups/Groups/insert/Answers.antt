use Rattle.std.proofs.Common.{refl, sym, ◌∙◌, ◌+◌, cond, ap, arith}
use Rattle.indexmap.specs.IndexMap.{spare}
use Rattle.am_board.proofs.lemmas.insert.GroupSpace.{changes_at}
use Rattle.am_board.proofs.lemmas.invariant.DueKeys.{had_at, tied_change}
use Rattle.am_board.specs.Group.{Gets}
use Rattle.am_board.specs.Refinement.{member_state}
use Rattle.am_board.proofs.lemmas.maintain.Empties.{bare-state, counted_change, counted_has, counted_fewer}
use Rattle.am_board.proofs.groups.Groups.insert.Goals as goal

pub invariant_of-self : goal.invariant_of-self
invariant_of-self c =
    let es = c.self.inside.groups.entries in
    let was = c.index_mut-group.result.now in
    let group = c.insert.new.self in (
      tied_change c.self.inside.due c.change.new.self es c.args.i was group group.name group.due c.self.invariant.0 c.index_mut-group.ensures.value
          c.insert.ensures.name c.insert.ensures.name refl
          (λ closed. c.change.ensures.has (had_at c.self.inside.due es c.args.i was group.name c.self.invariant.0 c.index_mut-group.ensures.value c.insert.ensures.name (sym c.insert.ensures.opened ∙ closed))) c.change.ensures.keeps,
      counted_change c.self.inside.empty c.self.inside.groups.entries c.args.i c.index_mut-group.result.now c.insert.new.self c.self.invariant.1 c.index_mut-group.ensures.value c.recounted-self-inside.result
          (ap (λ b. c.recounted-self-inside.result + cond b 1 0) (bare-state c.index_mut-group.result.now ∙ sym c.is_without_alerts-was_empty.ensures) ∙ c.recounted-self-inside.ensures ∙ ap (λ b. c.self.inside.empty + cond b 1 0) (sym (bare-state c.insert.new.self ∙ c.insert.ensures.alerts))),
    )

pub recounted-self-inside-requires-clause-more : goal.recounted-self-inside-requires-clause-more
recounted-self-inside-requires-clause-more c e =
    let fewer = counted_fewer c.self.inside.empty c.self.inside.groups.entries c.args.i c.index_mut-group.result.now c.insert.new.self c.self.invariant.1 c.index_mut-group.ensures.value (bare-state c.index_mut-group.result.now ∙ sym c.is_without_alerts-was_empty.ensures ∙ e) in omega (arith, fewer, c.len-groups.ensures.len)

pub recounted-self-inside-requires-clause-fewer : goal.recounted-self-inside-requires-clause-fewer
recounted-self-inside-requires-clause-fewer c e = counted_has c.self.inside.empty c.self.inside.groups.entries c.args.i c.index_mut-group.result.now c.insert.new.self c.self.invariant.1 c.index_mut-group.ensures.value (bare-state c.index_mut-group.result.now ∙ sym c.is_without_alerts-was_empty.ensures ∙ e)

pub returns : goal.returns
returns c =
    changes_at c.self.inside.groups.entries (spare c.self.inside.groups) c.args.self.now c.self.view_is c.args.i c.index_mut-group.result.now c.index_mut-group.ensures.value
    (Gets (member_state c.args.member) c.args.wait c.args.t) c.insert.new.self (c.insert.ensures.name) (record { is_open = c.insert.ensures.opened; space = c.insert.ensures.space; state = c.insert.ensures.state })
