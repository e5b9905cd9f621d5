use Rattle.std.proofs.Common.{◌≡◌, map}
use Rattle.am_plans.specs.declared.planned.Planned.{Planned}
use Rattle.am_plans.proofs.planned.split.Given as goal

-- the plans so far
abbrev pub invariant-loop-one : goal.invariant-loop-one
invariant-loop-one l = l.plans.items ≡ map (λ (p : Planned). p.plan) l.yielded
