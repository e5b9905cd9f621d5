use Rattle.std.proofs.Common.{◌+◌, ℕ, Option, arith, refl, subst, sym}
use Rattle.std.specs.Prelude.{IsSomeAnd}
use Rattle.serde_json.specs.View.{view}
use Rattle.am_json.specs.Read.{duration_in}
use Rattle.am_plans.proofs.Decodings.{failed}
use Rattle.am_plans.proofs.ExpectedSpans.{no_end_of}
use Rattle.am_plans.specs.Expected.{IsEndOf}
use Rattle.am_plans.proofs.expectation.span.end_of.Goals as goal

pub returns-clause-last : goal.returns-clause-last
returns-clause-last c =
    subst (λ (o : Option ℕ). IsSomeAnd o (IsEndOf c.args.from (c.args.from + c.in_ok-length.length))) c.in_ok-length.ensures (refl, omega arith)

pub returns-in_err-length-clause-refused : goal.returns-in_err-length-clause-refused
returns-in_err-length-clause-refused c =
    failed ((to : ℕ) → IsSomeAnd (duration_in (view c.args.within.now.value)) (IsEndOf c.args.from to) → ⊥) c.from_residual.result
    (λ to decoded. subst (λ (o : Option ℕ). IsSomeAnd o (IsEndOf c.args.from to)) (sym c.in_err-length.ensures) decoded)

pub returns-then-length-from-clause-refused : goal.returns-then-length-from-clause-refused
returns-then-length-from-clause-refused c to decoded =
    no_end_of (duration_in (view c.args.within.now.value)) c.args.from to c.in_ok-length.length c.in_ok-length.ensures (omega arith) decoded
