use Rattle.std.proofs.Common.{[], ◌∷◌, ◌++◌, append_assoc, codes}
use Rattle.json.specs.Token.{end_object}
use Rattle.am_protocol.specs.View.{listed}
use Rattle.am_protocol.proofs.Pieces.{last_piece}
use Rattle.am_session.specs.Ticket.{ticket_tokens}
use Rattle.am_session.proofs.ticket.write_tickets.Goals as goal

pub returns : goal.returns
returns c =
    last_piece c.close.result c.close.new.self c.close_list.new.self (end_object ∷ []) (c.args.answer.now ++ listed (codes "tickets") (ticket_tokens c.args.config.now) c.args.tickets.now.items)
    (rw (c.in_ok-close_list.ensures, c.in_ok-add_tickets.ensures, c.in_ok-open_list.ensures, c.in_ok-key.ensures, c.in_ok-open.ensures) (simp append_assoc cc)) c.close.ensures
