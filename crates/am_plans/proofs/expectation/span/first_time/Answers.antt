use Rattle.std.proofs.Common.{◌≡◌, None}
use Rattle.am_plans.proofs.Decodings.{starved_of}
use Rattle.am_plans.specs.Expected.{first_insert}
use Rattle.am_plans.proofs.expectation.span.first_time.Goals as goal

pub returns-in_err-first_insert-clause-refused : goal.returns-in_err-first_insert-clause-refused
returns-in_err-first_insert-clause-refused c =
    starved_of (first_insert c.args.last c.args.resolves c.args.matchers.now c.args.plans.now ≡ None) c.from_residual.result c.from_residual.ensures.1
