use Rattle.std.proofs.Common.{codes}
use Rattle.am_protocol.specs.Reply.{flush_members}
use Rattle.am_protocol.proofs.Pieces.{named_piece}
use Rattle.am_protocol.proofs.reply.write_flush.Goals as goal

pub returns : goal.returns
returns c =
    named_piece c.end.result c.begin.new.answer c.put_flush.new.answer c.end.new.answer c.args.answer.now
    (codes "flush") (flush_members c.args.config.now c.args.number c.args.group.now c.args.deadline c.args.notices.now)
    c.in_ok-begin.ensures c.in_ok-put_flush.ensures c.end.ensures
