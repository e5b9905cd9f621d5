use Rattle.std.proofs.Common.{take}
use Rattle.std.specs.List.{flat_map}
use Rattle.am_plans.specs.Planned.{AddsPlans, inserts_of}
use Rattle.am_plans.proofs.planned.add_alerts.Given as goal

-- the inserts of the alerts so far
abbrev pub invariant-loop-item : goal.invariant-loop-item
invariant-loop-item l = AddsPlans l.fn.planned.items l.planned.items (flat_map inserts_of (take l.item l.alerts))
