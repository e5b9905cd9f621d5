use Rattle.std.proofs.Common.{◌∙◌, ◌++◌, List, ap, codes}
use Rattle.std.specs.Option.{option_copied}
use Rattle.json.specs.Token.{Token}
use Rattle.am_protocol.specs.Begun.{why_members}
use Rattle.am_protocol.specs.Reply.{flush_members}
use Rattle.am_protocol.proofs.NamedPieces.{named_pieces}
use Rattle.am_session.proofs.Pieces.{same_flush}
use Rattle.am_session.proofs.session.calls.write_begun.Goals as goal

pub returns : goal.returns
returns c =
    let config = c.args.config.now in
    let ticket = c.args.ticket.now in
    named_pieces c.end.result c.begin.new.answer c.put_flush.new.answer c.put_why.new.answer c.end.new.answer c.args.answer.now
    (codes "flush") (flush_members config ticket.number ticket.group ticket.deadline ticket.notices) (why_members (option_copied c.args.preview))
    c.in_ok-begin.ensures
    (c.in_ok-put_flush.ensures ∙ ap (λ (members : List Token). c.begin.new.answer ++ members)
    (same_flush config c.number.result ticket.number c.group.result.now ticket.group c.deadline.result ticket.deadline c.notices.result.now ticket.notices
    c.number.ensures c.group.ensures c.deadline.ensures c.notices.ensures.notices))
    c.in_ok-put_why.ensures c.end.ensures
