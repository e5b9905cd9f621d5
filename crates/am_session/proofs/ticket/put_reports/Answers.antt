use Rattle.std.proofs.Common.{[], ◌∷◌, ◌++◌, append_assoc, codes}
use Rattle.json.specs.Token.{end_array, key}
use Rattle.am_protocol.proofs.Pieces.{last_piece}
use Rattle.am_session.specs.Ticket.{reports_tokens}
use Rattle.am_session.proofs.ticket.put_reports.Goals as goal

pub returns : goal.returns
returns c =
    last_piece c.close_list.result c.close_list.new.self c.add_reports.new.answer (end_array ∷ []) (c.args.answer.now ++ key (codes "reports") ∷ reports_tokens c.args.ticket.now)
    (rw (c.in_ok-add_reports.ensures, c.in_ok-open_list.ensures, c.in_ok-key.ensures) (simp append_assoc cc)) c.close_list.ensures
