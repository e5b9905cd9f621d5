use Rattle.am_model.specs.RouteKeys.{matcher_cmp}
use Rattle.am_model.proofs.configuration.RouteKeys.{GoesBehind}
use Rattle.am_model.proofs.route_keys.index_for.Given as goal

-- the matcher goes behind those so far
abbrev pub invariant-loop-i : goal.invariant-loop-i
invariant-loop-i l = GoesBehind matcher_cmp l.parts l.sorted l.i
