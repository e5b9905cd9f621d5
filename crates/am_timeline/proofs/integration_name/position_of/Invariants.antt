use Rattle.std.proofs.Common.{◌≡◌, drop}
use Rattle.am_model.specs.Carry.{position_of}
use Rattle.am_timeline.proofs.integration_name.position_of.Given as goal

-- the integrations from here on have it at the index that is left
abbrev pub invariant-loop-i : goal.invariant-loop-i
invariant-loop-i l = position_of l.kind l.left l.i (drop l.i l.integrations) ≡ position_of l.kind l.index 0 l.integrations
