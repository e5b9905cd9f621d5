use Rattle.std.proofs.Common.{◌∙◌, List, IfOk, ap, map, string_bytes, subst}
use Rattle.std.proofs.lemmas.Result.{IfOk-weaker}
use Rattle.am_simulation.specs.declared.playing.PlayedPart.{PlayedPart}
use Rattle.am_terms.specs.declared.expectation.Expectation.{Expectation}
use Rattle.am_input.specs.Request.{times_from}
use Rattle.am_render.specs.Faults.{RefusesPlay}
use Rattle.am_render.specs.Head.{change_of}
use Rattle.am_render.specs.Printed.{IsOutputOf}
use Rattle.am_render.specs.declared.head.Change.{Change}
use Rattle.am_render.proofs.Refusals.{passed, starved}
use Rattle.am_render.proofs.run.play_and_render.Goals as goal

pub returns-clause-printed : goal.returns-clause-printed
returns-clause-printed g c =
    let input = c.args.input in
    let Decodes : List Change → List PlayedPart → List Expectation → Type 0 =
    λ changes played expectations. IfOk c.render_from.result (λ rendered. IsOutputOf changes played input.output c.args.options.now (times_from input.start) expectations rendered.is_met (string_bytes rendered.text)) in
    let played = c.in_ok-played.played.items in
    let changed = c.as_slice-changes.ensures.value ∙ c.in_ok-changes.ensures ∙ ap (map change_of) c.as_slice.ensures.value in
    IfOk-weaker c.render_from.result _ _
    (λ rendered tale. record { played = played; plays = c.in_ok-played.ensures.plays; tale = tale })
    (subst (λ (changes : List Change). Decodes changes played input.expectations.items) changed
    (subst (λ (parts : List PlayedPart). Decodes c.as_slice-changes.result.now parts input.expectations.items) c.as_slice-played.ensures.value
    (subst (λ (expectations : List Expectation). Decodes c.as_slice-changes.result.now c.as_slice-played.result.now expectations) c.as_slice-expectations.ensures.value c.render_from.ensures.output)))

pub returns-clause-refused : goal.returns-clause-refused
returns-clause-refused g c = starved (RefusesPlay c.args.input.rehearsal c.args.input.dispatcher_changes.items) c.render_from.result tt c.render_from.ensures.refused

pub returns-in_err-played-clause-refused : goal.returns-in_err-played-clause-refused
returns-in_err-played-clause-refused g c =
    passed (RefusesPlay c.args.input.rehearsal c.args.input.dispatcher_changes.items) c.from_residual-in_err-played.result c.in_err-played.field-0.0
    c.from_residual-in_err-played.ensures.1 c.in_err-played.ensures.refused
