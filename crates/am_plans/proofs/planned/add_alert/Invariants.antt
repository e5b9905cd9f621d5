use Rattle.std.proofs.Common.{take}
use Rattle.std.specs.List.{flat_map}
use Rattle.am_plans.specs.Planned.{AddsPlans, inserts_in}
use Rattle.am_plans.proofs.planned.add_alert.Given as goal

-- the inserts of the spans so far
abbrev pub invariant-loop-number : goal.invariant-loop-number
invariant-loop-number l = AddsPlans l.fn.planned.items l.planned.items (flat_map (inserts_in l.alert.labels) (take l.number l.alert.spans.items))
