use Rattle.std.proofs.Common.{◌<◌, List, length, drop, map}
use Rattle.std.specs.Prelude.{IfSome}
use Rattle.am_board.specs.Refinement.{group_state}
use Rattle.am_board.specs.Marks.{HaveOpenFlags}
use Rattle.am_model.specs.State.{FlushState}
use Rattle.am_board.specs.Beginning.{first_of, IsFirst}
use Rattle.am_board.proofs.groups.first.first_by_walk.Given as goal

-- the best of the groups from here on is there, and it is the one that is taken of them
abbrev pub invariant-loop-i : goal.invariant-loop-i
invariant-loop-i l =
    record {
      within : IfSome l.best (λ j. j < length l.groups);
      first : (flushes : List FlushState) → HaveOpenFlags flushes l.groups → IsFirst l.groups l.best (first_of flushes l.t (map group_state (drop l.i l.groups)));
    }
