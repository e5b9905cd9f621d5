use Rattle.std.proofs.Common.{[], ◌∷◌, ◌++◌, refl, ap, ◌∙◌, arith}
use Rattle.am_model.specs.Begin.{without_resolved, count_resolved}
use Rattle.am_model.specs.Records.{entry}
use Rattle.am_board.specs.Refinement.{group_state}
use Rattle.am_board.specs.declared.group.Group.{Group}
use Rattle.am_model.specs.declared.record.Call.TheVariants.{Begin}
use Rattle.am_model.specs.declared.record.Reply.TheVariants.{Quiet}
use Rattle.am_board.proofs.lemmas.begin.Ends.{begun_state, accepts_quiet}
use Rattle.am_board.proofs.begin.begin_quiet.Goals as goal

pub returns : goal.returns
returns c config g good takes none =
    let old = c.args.state.now in
    let group = c.begin_quiet-removed.ensures.group in
    let begun = begun_state config c.args.chosen.call.id old c.args.chosen g good takes group.from group.was in
    let left = group.changed ∙ ap (without_resolved c.args.chosen.t) begun in
    let named = ap (λ (x : Group). x.name) (c.at.ensures ∙ takes.group c.at.result.now) in (
      accepts_quiet config c.args.chosen.call.id old c.args.chosen g good takes group.to c.in_ok-name.name c.in_ok-recorded.recorded c.begin_quiet-removed.result _ none left
          (c.in_ok-name.ensures ∙ named) (c.in_ok-recorded.ensures ∙ c.in_ok-name.ensures ∙ named)
          (c.begin_quiet-removed.ensures.count g ∙ ap (λ (x : Group). count_resolved c.args.chosen.t (group_state x)) (takes.group g))
          group.items
          c.begin_quiet-removed.ensures.marks
          refl
          (c.push_reserved.ensures.items ∙ ap (λ rs. rs ++ entry c.args.chosen.call.pass (Begin c.args.chosen.call.now) (Quiet c.in_ok-recorded.recorded c.begin_quiet-removed.result) ∷ []) c.in_ok-reserve.ensures.items)
          (omega (arith, c.push_reserved.ensures.len, c.in_ok-reserve.ensures.len))
          (omega (arith, c.push_reserved.ensures.len, c.push_reserved.ensures.capacity, c.in_ok-reserve.ensures.len, c.in_ok-reserve.ensures.ok, c.len.ensures)),
      tt,
    )
