use Rattle.std.proofs.Common.{◌<◌, ◌≤◌, ◌-◌, ℕ, get_or, length}
use Rattle.std.specs.VecDeque.{deque_len}
use Rattle.am_session.specs.Ticket.{numbers}
use Rattle.am_session.proofs.ticket.find_by_halves.Given as goal

-- the numbers before the indexes that are left are smaller, and those behind them are greater
abbrev pub invariant-loop-low : goal.invariant-loop-low
invariant-loop-low l = record {
  within : l.high ≤ deque_len l.tickets;
  below : (k : ℕ) → k < l.low → k < length l.tickets.items → get_or (numbers l.tickets.items) k 0 < l.number;
  above : (k : ℕ) → l.high ≤ k → k < length l.tickets.items → l.number < get_or (numbers l.tickets.items) k 0;
}

abbrev pub decreases-loop-low : goal.decreases-loop-low
decreases-loop-low l = l.high - l.low
