use Rattle.std.proofs.Common.{◌≡◌, take}
use Rattle.am_simulation.proofs.dispatcher_change.copy_matchers.Given as goal

-- copies of the matchers so far
abbrev pub invariant-loop-matcher : goal.invariant-loop-matcher
invariant-loop-matcher l = l.copies.items ≡ take l.matcher-index l.matchers
