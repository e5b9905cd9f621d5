use Rattle.std.proofs.Common.{length, take}
use Rattle.am_plans.specs.Planned.{AddsPlans, sets_from}
use Rattle.am_plans.proofs.planned.add_silences.Given as goal

-- the silences so far
abbrev pub invariant-loop-item : goal.invariant-loop-item
invariant-loop-item l = AddsPlans l.fn.planned.items l.planned.items (sets_from 1 (take (length l.yielded) l.fn.silences.items))
