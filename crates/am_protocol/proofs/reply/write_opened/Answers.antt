use Rattle.std.proofs.Common.{codes}
use Rattle.am_protocol.specs.Reply.{ignored_members, routes_members}
use Rattle.am_protocol.proofs.NamedPieces.{named_pieces}
use Rattle.am_protocol.proofs.reply.write_opened.Goals as goal

pub returns : goal.returns
returns c =
    named_pieces c.end.result c.begin.new.answer c.put_ignored.new.answer c.put_routes.new.answer c.end.new.answer c.args.answer.now
    (codes "opened") (ignored_members c.args.ignored.now) (routes_members c.args.config.now.routes)
    c.in_ok-begin.ensures c.in_ok-put_ignored.ensures c.in_ok-put_routes.ensures c.end.ensures
