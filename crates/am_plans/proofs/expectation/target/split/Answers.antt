use Rattle.std.proofs.Common.{◌∙◌, Some, None, ap, arith, refl, sym}
use Rattle.std.proofs.lemmas.Str.Pattern.{split_after, split_parts}
use Rattle.am_plans.specs.Expected.{position_named}
use Rattle.am_plans.proofs.expectation.target.split.Goals as goal

pub returns-in_default : goal.returns-in_default
returns-in_default c =
    (refl, λ kind written is lacks. absurd (split_after 47 c.args.text.now kind written None c.in_default.ensures.cases (omega arith) is lacks))

pub returns-in-None : goal.returns-in-None
returns-in-None c = (
  refl,
  λ kind written is lacks.
      let same = split_after 47 c.args.text.now kind written (Some (c.in-Some.kind, c.in-Some.written)) c.in-Some.ensures.cases (omega arith) is lacks in
      ap position_named (sym same.1) ∙ sym c.in-None.ensures,
)

pub returns-in-Some-position_of : goal.returns-in-Some-position_of
returns-in-Some-position_of c =
    let parts = split_parts 47 c.args.text.now (Some (c.in-Some.kind, c.in-Some.written)) c.in-Some.ensures.cases (omega arith) in
    record { written = c.in-Some.written.now; is = parts.0; first = parts.1; writes = sym c.in-Some-position_of.ensures }
