use Rattle.std.proofs.Common.{◌≡◌, false, option_copied}
use Rattle.am_plans.proofs.Decodings.{starved_of}
use Rattle.am_plans.specs.Expected.{is_matched}
use Rattle.am_plans.proofs.expectation.alerts.check_matched.Goals as goal

pub returns-in_err-first_insert-in-Some-clause-refused : goal.returns-in_err-first_insert-in-Some-clause-refused
returns-in_err-first_insert-in-Some-clause-refused c =
    starved_of (is_matched c.args.last c.args.plans.now c.args.resolves (option_copied c.args.matchers) ≡ false) c.from_residual.result c.from_residual.ensures.1
