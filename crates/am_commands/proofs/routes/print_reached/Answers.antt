use Rattle.std.proofs.Common.{◌∙◌, List, ap, option_map, refl, string_bytes, sym, ℕ}
use Rattle.am_commands.specs.AskedRoutes.{is_verified}
use Rattle.am_commands.proofs.routes.print_reached.Goals as goal

pub returns-in-Done-clause-done : goal.returns-in-Done-clause-done
returns-in-Done-clause-done g c is = (
  string_bytes c.in-Ok-reached_by.reached.lines,
  (let done = c.in-Done.ensures.done refl in let value = c.as_str.ensures.value in cc),
  (
    _,
    c.in-Ok.ensures.written,
    sym (c.verified.ensures.done is)
        ∙ ap (λ (t : List ℕ). is_verified (option_map (λ text. text.now) c.args.request.verify) t)
        (c.as_str-in-Done.ensures.value ∙ c.in-Ok-reached_by.ensures.receivers),
    c.in-Ok-reached_by.ensures.lines,
  ),
)

pub returns-in-Done-clause-differs : goal.returns-in-Done-clause-differs
returns-in-Done-clause-differs g c is = (
  string_bytes c.in-Ok-reached_by.reached.lines,
  (let done = c.in-Done.ensures.done refl in let value = c.as_str.ensures.value in cc),
  (
    _,
    c.in-Ok.ensures.written,
    sym (c.verified.ensures.differs is)
        ∙ ap (λ (t : List ℕ). is_verified (option_map (λ text. text.now) c.args.request.verify) t)
        (c.as_str-in-Done.ensures.value ∙ c.in-Ok-reached_by.ensures.receivers),
    c.in-Ok-reached_by.ensures.lines,
  ),
)
