use Rattle.std.proofs.Common.{◌≡◌, take}
use Rattle.am_board.proofs.silence.parts_of.Given as goal

-- the parts so far are those of the matchers so far
abbrev pub invariant-loop-matcher : goal.invariant-loop-matcher
invariant-loop-matcher l = l.parts.items ≡ take l.matcher-index l.matchers
