use Rattle.std.proofs.Common.{◌≡◌, ◌-◌, drop, length}
use Rattle.am_model.specs.Lists.{in_order}
use Rattle.am_model.specs.RouteKeys.{matcher_cmp}
use Rattle.am_model.proofs.route_keys.sorted.Given as goal

-- the last matchers are in order
abbrev pub invariant-loop-i : goal.invariant-loop-i
invariant-loop-i l = l.sorted.items ≡ in_order matcher_cmp (drop (length l.matchers - l.i) l.matchers)
