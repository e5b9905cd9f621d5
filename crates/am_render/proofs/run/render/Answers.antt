use Rattle.serde_json.specs.View.{view}
use Rattle.am_render.specs.Faults.{Refuses, fault_of_input, fault_of_refusal}
use Rattle.am_render.proofs.Refusals.{passed, unended, unread}
use Rattle.am_render.proofs.Tales.{printed_by}
use Rattle.am_render.proofs.run.render.Goals as goal

pub returns-clause-printed : goal.returns-clause-printed
returns-clause-printed g c =
    printed_by _ _ _ _ _ _ _ _ _ _ c.in_ok-input.ensures.decoded c.in_ok-play_and_render.ensures.printed

pub returns-in_err-input-clause-refused : goal.returns-in_err-input-clause-refused
returns-in_err-input-clause-refused g c =
    let refused = c.in_err-input.field-0.0 in
    passed (Refuses c.args.order.changes (view c.args.story.now)) c.from_residual.result (fault_of_refusal refused) c.from_residual.ensures.1
    (unread c.args.order.changes (view c.args.story.now) refused c.in_err-input.ensures.refused)

pub returns-in_err-play_and_render-clause-refused : goal.returns-in_err-play_and_render-clause-refused
returns-in_err-play_and_render-clause-refused g c =
    let fault = c.in_err-play_and_render.field-0.0 in
    passed (Refuses c.args.order.changes (view c.args.story.now)) c.from_residual-in_err-play_and_render.result (fault_of_input fault)
    c.from_residual-in_err-play_and_render.ensures.1
    (unended c.args.order.changes (view c.args.story.now) c.in_ok-input.input fault c.in_ok-input.ensures.decoded
    c.in_err-play_and_render.ensures.refused)
