use Rattle.std.proofs.Common.{◌≡◌, ◌∙◌, ◌++◌, List, None, ap, refl, string_bytes, ℕ}
use Rattle.std.specs.Prelude.{if◌then◌else◌}
use Rattle.serde_json.specs.View.{view}
use Rattle.am_console.specs.declared.files.PaintedOutput.{PaintedOutput}
use Rattle.am_rehearse.proofs.compare.try_compare.Goals as goal

-- what an output took
abbrev taken : PaintedOutput → List ℕ
taken output = if output.is_colored then output.io_trace.moved else output.output.io_trace.moved

pub returns-clause-done : goal.returns-clause-done
returns-clause-done g c = λ done.
    let same : c.compared.new.console.output ≡ c.args.console.now.output =
    c.in_ok-compared.ensures.silent
    ∙ (c.in_ok-new.ensures.silent ∙ (c.in_ok-old.ensures.silent ∙ (c.in_ok-read_reload_files.ensures.silent ∙ c.in_ok-story.ensures.silent))) in (
      c.in_ok-compared.compared.differs,
      c.print.ensures.same done,
      record {
        overrides = record { output = None; until = c.in_ok-until_of.field-0 };
        output = refl;
        until = c.in_ok-until_of.ensures.asked;
        story = view c.read_reload_files.new.story.value;
        old_config = view c.in_ok-old.old.value;
        new_config = view c.in_ok-new.new.value;
        text = string_bytes c.in_ok-compared.compared.text;
        compares = c.in_ok-compared.ensures.compares;
        taken_is = c.print.ensures.done done ∙ ap (λ (o : PaintedOutput). taken o ++ string_bytes c.in_ok-compared.compared.text) same;
      },
    )
