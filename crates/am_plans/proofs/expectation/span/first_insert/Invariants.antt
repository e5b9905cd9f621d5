use Rattle.std.proofs.Common.{◌≡◌, drop}
use Rattle.am_plans.specs.Expected.{first_insert}
use Rattle.am_plans.proofs.expectation.span.first_insert.Given as goal

-- none of the actions so far does
abbrev pub invariant-loop-plan : goal.invariant-loop-plan
invariant-loop-plan l =
    first_insert l.last l.resolves l.matchers l.plans ≡ first_insert l.last l.resolves l.matchers (drop l.plan-index l.plans)
