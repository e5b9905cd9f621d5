use Rattle.std.specs.Option.{option_copied}
use Rattle.am_session.proofs.Making.{flush_answered}
use Rattle.am_session.proofs.session.Session.keep_ticket.Goals as goal

pub returns-clause-answered : goal.returns-clause-answered
returns-clause-answered c =
    flush_answered c.answered.result c.write_begun-written.result c.config.result.now c.args.self.now.board.config (option_copied c.args.preview) c.args.answer.now
    c.write_begun-written.new.answer c.args.ticket c.answered.ensures.ok c.config.ensures.config c.write_begun-written.ensures
