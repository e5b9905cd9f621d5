use Rattle.std.proofs.Common.{take}
use Rattle.am_model.specs.KeyIndex.{IsIndexOf}
use Rattle.am_model.proofs.route_keys.index_of.Given as goal

-- the keys so far are found
abbrev pub invariant-loop-i : goal.invariant-loop-i
invariant-loop-i l = IsIndexOf (take l.i l.keys) l.index
