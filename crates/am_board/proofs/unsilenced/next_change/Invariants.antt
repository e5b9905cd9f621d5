use Rattle.std.proofs.Common.{take}
use Rattle.std.specs.Prelude.{All}
use Rattle.am_board.specs.Unsilenced.{StartsOutside}
use Rattle.am_board.proofs.unsilenced.next_change.Given as goal

-- none of the silences so far starts before the time that was found
abbrev pub invariant-loop-silence : goal.invariant-loop-silence
invariant-loop-silence l = All (StartsOutside l.t l.next) (take l.silence-index l.silences)
