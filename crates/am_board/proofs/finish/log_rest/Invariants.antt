use Rattle.std.proofs.Common.{◌≡◌, length}
use Rattle.std.specs.Prelude.{All, IsPermutation}
use Rattle.std.specs.List.{list_all}
use Rattle.am_model.specs.Finish.{has_succeeded}
use Rattle.am_board.specs.Refinement.{IsNotified, notified_state_of}
use Rattle.am_board.specs.LogRows.{log_rows}
use Rattle.am_board.specs.Finishing.{logged_of, rows_with, KnowTheSame}
use Rattle.am_board.specs.declared.flush.OpenFlush.{OpenFlush}
use Rattle.am_board.proofs.finish.log_rest.Given as goal

-- whether those so far succeeded; the rows of those that did are in the log
abbrev pub invariant-loop-one : goal.invariant-loop-one
invariant-loop-one l = record {
  known : KnowTheSame l.log l.fn.log;
  count : l.logged ≡ length (logged_of l.outcomes l.yielded);
  all : l.all ≡ list_all (λ a. has_succeeded l.outcomes (notified_state_of a)) l.yielded;
  rows : (f : OpenFlush) → f.kept_for ≡ l.kept_for → All (IsNotified l.fn.log f) l.fn.notified.items
      → IsPermutation (log_rows l.log) (rows_with f l.t l.outcomes l.yielded (log_rows l.fn.log));
}
