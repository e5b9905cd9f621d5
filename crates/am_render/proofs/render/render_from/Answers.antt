use Rattle.std.proofs.Common.{Option, string_bytes, subst, sym}
use Rattle.am_terms.specs.UtcDates.{StartData}
use Rattle.am_input.specs.Request.{times_from}
use Rattle.am_render.specs.Printed.{IsOutputOf}
use Rattle.am_render.proofs.render.render_from.Goals as goal

pub returns-in_ok-render_by-in-None-clause-output : goal.returns-in_ok-render_by-in-None-clause-output
returns-in_ok-render_by-in-None-clause-output c =
    let rendered = c.in_ok-render_by-in-None.field-0 in
    let Decodes : Option StartData → Type 0 =
    λ start. IsOutputOf c.args.changes.now c.args.played.now c.args.show.now.output c.args.show.now.options.now (times_from start) c.args.show.now.expectations.now rendered.is_met (string_bytes rendered.text) in
    subst Decodes (sym c.in-None.is) c.in_ok-render_by-in-None.ensures

pub returns-in_ok-render_by-in-Some-clause-output : goal.returns-in_ok-render_by-in-Some-clause-output
returns-in_ok-render_by-in-Some-clause-output c =
    let rendered = c.in_ok-render_by-in-Some.field-0 in
    let Decodes : Option StartData → Type 0 =
    λ start. IsOutputOf c.args.changes.now c.args.played.now c.args.show.now.output c.args.show.now.options.now (times_from start) c.args.show.now.expectations.now rendered.is_met (string_bytes rendered.text) in
    subst Decodes (sym c.in-Some.is) c.in_ok-render_by-in-Some.ensures
