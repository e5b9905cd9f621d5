use Rattle.std.proofs.Common.{◌∙◌, ◌++◌, ◌∷◌, List, ap, codes}
use Rattle.json.specs.Token.{Token, key}
use Rattle.am_protocol.specs.Reply.{flush_members}
use Rattle.am_session.proofs.Pieces.{object_pieces, same_flush}
use Rattle.am_session.specs.Ticket.{reports_tokens}
use Rattle.am_session.proofs.ticket.write_ticket.Goals as goal

pub returns : goal.returns
returns c =
    let config = c.args.config.now in
    let ticket = c.args.ticket.now in
    object_pieces c.close.result c.open.new.self c.put_flush.new.answer c.put_reports.new.answer c.close.new.self c.args.answer.now
    (flush_members config ticket.number ticket.group ticket.deadline ticket.notices) (key (codes "reports") ∷ reports_tokens ticket)
    c.in_ok-open.ensures
    (c.in_ok-put_flush.ensures ∙ ap (λ (members : List Token). c.open.new.self ++ members)
    (same_flush config c.number.result ticket.number c.group.result.now ticket.group c.deadline.result ticket.deadline c.notices.result.now ticket.notices
    c.number.ensures c.group.ensures c.deadline.ensures c.notices.ensures.notices))
    c.in_ok-put_reports.ensures c.close.ensures
