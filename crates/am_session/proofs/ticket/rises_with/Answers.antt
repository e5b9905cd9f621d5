use Rattle.std.proofs.Common.{arith}
use Rattle.std.specs.VecDeque.{deque_len}
use Rattle.am_model.specs.Ticket.{TicketData}
use Rattle.am_session.proofs.Rising.{pushed}
use Rattle.am_session.proofs.ticket.rises_with.Goals as goal

pub returns-in-Some : goal.returns-in-Some
returns-in-Some c = pushed (λ (t : TicketData). t.number) c.args.number c.args.tickets.now.items (deque_len c.args.tickets.now) c.in-Some.last.now c.number_of.result (omega arith) c.in-Some.ensures.lookup c.number_of.ensures
