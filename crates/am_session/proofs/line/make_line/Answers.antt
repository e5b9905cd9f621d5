use Rattle.am_session.proofs.Answering.{answers_line}
use Rattle.am_session.proofs.line.make_line.Goals as goal

pub returns-in-Ok-clause-answered : goal.returns-in-Ok-clause-answered
returns-in-Ok-clause-answered c = answers_line _ _ _ _ _ _ c.new-answer.ensures c.in_ok-answer.ensures.answered c.in-Ok.ensures.text c.in-Ok.ensures.one
