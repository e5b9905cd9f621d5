use Rattle.std.proofs.Common.{◌≡◌, drop, map}
use Rattle.am_alerts.specs.Labels.{has_text_twice}
use Rattle.am_alerts.proofs.route.has_child_twice.Given as goal

-- the children from here on say whether a name is twice
abbrev pub invariant-loop-i : goal.invariant-loop-i
invariant-loop-i l = has_text_twice (map (λ c. c.route.name) (drop l.i l.children)) ≡ has_text_twice (map (λ c. c.route.name) l.children)
