use Rattle.std.proofs.Common.{◌≡◌, map, ap, ◌∙◌, ◌+◌, cond, sym, arith}
use Rattle.indexmap.specs.IndexMap.{spare}
use Rattle.am_board.specs.Refinement.{group_state, member_state, stamped}
use Rattle.am_model.specs.State.{GroupState}
use Rattle.am_board.specs.declared.group.Group.{Group}
use Rattle.am_board.proofs.lemmas.insert.GroupSpace.{changes_at, lent_as}
use Rattle.am_board.proofs.lemmas.invariant.DueKeys.{tied_same}
use Rattle.std.specs.Prelude.{count_by}
use Rattle.am_model.specs.Finish.{is_leaving}
use Rattle.am_model.specs.Lists.{without}
use Rattle.am_board.proofs.lemmas.maintain.Empties.{bare-state, counted_change, counted_has, counted_fewer}
use Rattle.am_board.proofs.groups.Groups.take_leaving.Goals as goal
use Rattle.std.specs.Map.{values_of}
use Rattle.am_board.specs.GroupList.{GroupList}
use Rattle.am_board.specs.Marks.{marks_of}
use Rattle.am_board.proofs.lemmas.invariant.Keyed.{value_at, values-set}
use Rattle.am_board.proofs.lemmas.invariant.Marks.{marks_set}

pub invariant_of-self : goal.invariant_of-self
invariant_of-self c = (
  tied_same c.self.inside.due c.self.inside.groups.entries c.args.i c.index_mut-group.result.now c.take_leaving-removed.new.group c.self.invariant.0 c.index_mut-group.ensures.value (ap (λ (g : GroupState). g.name) c.take_leaving-removed.ensures.group) (ap (λ (g : GroupState). g.due) c.take_leaving-removed.ensures.group) c.take_leaving-removed.ensures.opened,
  counted_change c.self.inside.empty c.self.inside.groups.entries c.args.i c.index_mut-group.result.now c.take_leaving-removed.new.group c.self.invariant.1 c.index_mut-group.ensures.value c.recounted-self-inside.result
      (ap (λ b. c.recounted-self-inside.result + cond b 1 0) (bare-state c.index_mut-group.result.now ∙ sym c.is_without_alerts-was_empty.ensures) ∙ c.recounted-self-inside.ensures ∙ ap (λ b. c.self.inside.empty + cond b 1 0) (c.is_without_alerts.ensures ∙ sym (bare-state c.take_leaving-removed.new.group))),
)

pub recounted-self-inside-requires-clause-more : goal.recounted-self-inside-requires-clause-more
recounted-self-inside-requires-clause-more c e =
    let fewer = counted_fewer c.self.inside.empty c.self.inside.groups.entries c.args.i c.index_mut-group.result.now c.take_leaving-removed.new.group c.self.invariant.1 c.index_mut-group.ensures.value (bare-state c.index_mut-group.result.now ∙ sym c.is_without_alerts-was_empty.ensures ∙ e) in omega (arith, fewer, c.len-groups.ensures.len)

pub recounted-self-inside-requires-clause-fewer : goal.recounted-self-inside-requires-clause-fewer
recounted-self-inside-requires-clause-fewer c e = counted_has c.self.inside.empty c.self.inside.groups.entries c.args.i c.index_mut-group.result.now c.take_leaving-removed.new.group c.self.invariant.1 c.index_mut-group.ensures.value (bare-state c.index_mut-group.result.now ∙ sym c.is_without_alerts-was_empty.ensures ∙ e)

pub returns-clause-group : goal.returns-clause-group
returns-clause-group c =
    changes_at c.self.inside.groups.entries (spare c.self.inside.groups) c.args.self.now c.self.view_is c.args.i c.index_mut-group.result.now c.index_mut-group.ensures.value
    (λ from to. group_state to ≡ record (group_state from) { members = without (is_leaving (map stamped c.args.leaving.now)) (map member_state from.members.items) }) c.take_leaving-removed.new.group (ap (λ (g : GroupState). g.name) c.take_leaving-removed.ensures.group) (c.take_leaving-removed.ensures.group)

pub returns-clause-count : goal.returns-clause-count
returns-clause-count c d =
    c.take_leaving-removed.ensures.count ∙ ap (λ (g : Group). count_by (is_leaving (map stamped c.args.leaving.now)) (map member_state g.members.items)) (lent_as c.self.inside.groups.entries (spare c.self.inside.groups) c.args.self.now c.self.view_is c.args.i c.index_mut-group.result.now c.index_mut-group.ensures.value d)

pub returns-clause-marks : goal.returns-clause-marks
returns-clause-marks c =
    let es = c.self.inside.groups.entries in
    let was = c.index_mut-group.result.now in
    let now = c.take_leaving-removed.new.group in
    let there = (value_at (values_of es) c.args.i was c.index_mut-group.ensures.value).0 in
    ap marks_of (values-set es c.args.i now)
    ∙ marks_set (values_of es) c.args.i now was (ap (λ (g : GroupState). g.name) c.take_leaving-removed.ensures.group ∙ ap (λ (g : Group). g.name) there) (c.take_leaving-removed.ensures.opened ∙ ap (λ (g : Group). g.is_open) there)
    ∙ ap (λ (k : GroupList). marks_of k.items) c.self.view_is
