use Rattle.std.proofs.Common.{◌≡◌, ◌++◌, take}
use Rattle.std.specs.List.{flat_map}
use Rattle.std.specs.VecDeque.{deque_len}
use Rattle.am_session.specs.Ticket.{ticket_tokens}
use Rattle.am_session.proofs.ticket.add_tickets.Given as goal

-- the tickets so far were added
abbrev pub invariant-loop-i : goal.invariant-loop-i
invariant-loop-i l = (l.i-end ≡ deque_len l.tickets) × (l.answer ≡ l.fn.answer ++ flat_map (ticket_tokens l.config) (take l.i l.tickets.items))
