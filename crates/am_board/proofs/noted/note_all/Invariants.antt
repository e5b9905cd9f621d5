use Rattle.std.proofs.Common.{◌≡◌}
use Rattle.am_board.proofs.noted.note_all.Given as goal

-- the silences are the same
abbrev pub invariant-loop-member : goal.invariant-loop-member
invariant-loop-member l = l.silences ≡ l.initial.silences
