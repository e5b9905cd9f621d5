use Rattle.std.proofs.Common.{◌≡◌, true, sym, ap, ◌∙◌, ◌+◌, cond, arith}
use Rattle.indexmap.specs.IndexMap.{spare}
use Rattle.am_board.specs.Refinement.{group_state}
use Rattle.am_model.specs.State.{GroupState}
use Rattle.am_board.specs.declared.group.Group.{Group}
use Rattle.am_board.proofs.lemmas.insert.GroupSpace.{changes_at, lent_as}
use Rattle.am_board.proofs.lemmas.invariant.DueKeys.{had_at, tied_change}
use Rattle.am_model.specs.Begin.{count_resolved, without_resolved}
use Rattle.am_board.proofs.lemmas.maintain.Empties.{bare-state, counted_change, counted_has, counted_fewer}
use Rattle.am_board.proofs.groups.Groups.begin_quiet.Goals as goal
use Rattle.std.specs.Map.{values_of}
use Rattle.am_board.specs.GroupList.{GroupList}
use Rattle.am_board.specs.Marks.{marks_of}
use Rattle.am_board.proofs.lemmas.invariant.Keyed.{value_at, values-set}
use Rattle.am_board.proofs.lemmas.invariant.Marks.{marks_set}

pub invariant_of-self : goal.invariant_of-self
invariant_of-self c =
    let es = c.self.inside.groups.entries in
    let was = c.index_mut-group.result.now in
    let name = c.mark_begun.new.group.name in
    let named = ap (λ (g : Group). g.name) c.mark_begun.ensures in
    let marked = c.take_resolved-removed.ensures.opened ∙ ap (λ (g : Group). g.is_open) c.mark_begun.ensures in (
      tied_change c.self.inside.due c.change.new.self es c.args.i was c.take_resolved-removed.new.group name c.args.due c.self.invariant.0 c.index_mut-group.ensures.value
          named (ap (λ (g : GroupState). g.name) c.take_resolved-removed.ensures.group ∙ named) (ap (λ (g : GroupState). g.due) c.take_resolved-removed.ensures.group ∙ ap (λ (g : Group). g.due) c.mark_begun.ensures)
          (λ closed. c.change.ensures.has (had_at c.self.inside.due es c.args.i was name c.self.invariant.0 c.index_mut-group.ensures.value named (sym marked ∙ closed))) c.change.ensures.keeps,
      counted_change c.self.inside.empty c.self.inside.groups.entries c.args.i c.index_mut-group.result.now c.take_resolved-removed.new.group c.self.invariant.1 c.index_mut-group.ensures.value c.recounted-self-inside.result
          (ap (λ b. c.recounted-self-inside.result + cond b 1 0) (bare-state c.index_mut-group.result.now ∙ sym c.is_without_alerts-was_empty.ensures) ∙ c.recounted-self-inside.ensures ∙ ap (λ b. c.self.inside.empty + cond b 1 0) (c.is_without_alerts.ensures ∙ sym (bare-state c.take_resolved-removed.new.group))),
    )

pub recounted-self-inside-requires-clause-more : goal.recounted-self-inside-requires-clause-more
recounted-self-inside-requires-clause-more c e =
    let fewer = counted_fewer c.self.inside.empty c.self.inside.groups.entries c.args.i c.index_mut-group.result.now c.take_resolved-removed.new.group c.self.invariant.1 c.index_mut-group.ensures.value (bare-state c.index_mut-group.result.now ∙ sym c.is_without_alerts-was_empty.ensures ∙ e) in omega (arith, fewer, c.len-groups.ensures.len)

pub recounted-self-inside-requires-clause-fewer : goal.recounted-self-inside-requires-clause-fewer
recounted-self-inside-requires-clause-fewer c e = counted_has c.self.inside.empty c.self.inside.groups.entries c.args.i c.index_mut-group.result.now c.take_resolved-removed.new.group c.self.invariant.1 c.index_mut-group.ensures.value (bare-state c.index_mut-group.result.now ∙ sym c.is_without_alerts-was_empty.ensures ∙ e)

pub returns-clause-group : goal.returns-clause-group
returns-clause-group c =
    changes_at c.self.inside.groups.entries (spare c.self.inside.groups) c.args.self.now c.self.view_is c.args.i c.index_mut-group.result.now c.index_mut-group.ensures.value
    (λ from to. group_state to ≡ without_resolved c.args.t (record (group_state from) { due = c.args.due; flushed = true })) c.take_resolved-removed.new.group (ap (λ (g : GroupState). g.name) c.take_resolved-removed.ensures.group ∙ ap (λ (g : Group). g.name) c.mark_begun.ensures) (c.take_resolved-removed.ensures.group ∙ ap (λ (g : Group). without_resolved c.args.t (group_state g)) c.mark_begun.ensures)

pub returns-clause-count : goal.returns-clause-count
returns-clause-count c d =
    c.take_resolved-removed.ensures.count
    ∙ ap (λ (g : Group). count_resolved c.args.t (group_state g)) c.mark_begun.ensures
    ∙ ap (λ (g : Group). count_resolved c.args.t (group_state g)) (lent_as c.self.inside.groups.entries (spare c.self.inside.groups) c.args.self.now c.self.view_is c.args.i c.index_mut-group.result.now c.index_mut-group.ensures.value d)

pub returns-clause-marks : goal.returns-clause-marks
returns-clause-marks c =
    let es = c.self.inside.groups.entries in
    let was = c.index_mut-group.result.now in
    let now = c.take_resolved-removed.new.group in
    let there = (value_at (values_of es) c.args.i was c.index_mut-group.ensures.value).0 in
    ap marks_of (values-set es c.args.i now)
    ∙ marks_set (values_of es) c.args.i now was ((ap (λ (g : GroupState). g.name) c.take_resolved-removed.ensures.group ∙ ap (λ (g : Group). g.name) c.mark_begun.ensures) ∙ ap (λ (g : Group). g.name) there) ((c.take_resolved-removed.ensures.opened ∙ ap (λ (g : Group). g.is_open) c.mark_begun.ensures) ∙ ap (λ (g : Group). g.is_open) there)
    ∙ ap (λ (k : GroupList). marks_of k.items) c.self.view_is
