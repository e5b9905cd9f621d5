use Rattle.std.proofs.Common.{[], ◌∷◌, ◌++◌, sym, ap, ◌∙◌}
use Rattle.std.proofs.lemmas.Iterator.Adapters.{YieldsList-from_vec}
use Rattle.std.proofs.lemmas.Iterator.Consumers.{YieldsList-end}
use Rattle.std.proofs.lemmas.List.{map-append, map-id}
use Rattle.am_model.specs.declared.views.RowView.{RowView}
use Rattle.am_simulation.specs.DispatcherChange.{loads, planned_at}
use Rattle.am_simulation.proofs.dispatcher_change.loads.Goals as goal
use Rattle.am_terms.specs.declared.rehearsal.Action.TheVariants.{Load}

pub loop-row-preserved : goal.loop-row-preserved
loop-row-preserved c =
    let at = c.args.at in
    c.in_ok-push.ensures.items
    ∙ ap (λ ps. ps ++ planned_at at (Load c.in-Some.row) ∷ []) c.loop-row.invariant
    ∙ sym (map-append (λ (row : RowView). planned_at at (Load row)) c.loop-row.yielded (c.in-Some.row ∷ []))

pub returns : goal.returns
returns c =
    let all = c.args.rows.items in
    let gives = c.into_iter-row-iterator.ensures.into_iter_gives in
    let end = YieldsList-end (YieldsList-from_vec {s = c.into_iter-row-iterator.result} all gives.0 (gives.1 ∙ c.args.rows.ok.0)) c.loop-row.yielded c.loop-row.row-iterator c.loop-row.yielded_by c.next.result c.next.new.self c.in-None.is c.next.ensures.steps in
    c.loop-row.invariant ∙ ap (loads c.args.at) (sym (map-id c.loop-row.yielded) ∙ end.0)
