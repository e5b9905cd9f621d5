use Rattle.std.proofs.Common.{◌≡◌, Some, length}
use Rattle.am_patterns.specs.Simple.{is_simple, is_simple_from}
use Rattle.am_patterns.proofs.simple.is_simple.Given as goal

-- the pattern is simple where what is left is
abbrev pub invariant-loop-rest : goal.invariant-loop-rest
invariant-loop-rest l = is_simple l.fn.pattern ≡ is_simple_from (Some l.place) l.rest

abbrev pub decreases-loop-rest : goal.decreases-loop-rest
decreases-loop-rest l = length l.rest
