use Rattle.std.proofs.Common.{◌≡◌, take}
use Rattle.am_board.proofs.lemmas.finish.LoggedRows.{rows_for}
use Rattle.am_board.proofs.logged.rows_of.Given as goal

-- the rows of the integrations so far
abbrev pub invariant-loop-one : goal.invariant-loop-one
invariant-loop-one l = l.rows.items ≡ rows_for l.flush l.t l.outcomes (take l.one-index l.notified)
