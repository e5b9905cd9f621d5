use Rattle.am_session.proofs.service.Service.answer_to.Goals as goal

pub returns-then-not-is_echoed-clause-answered : goal.returns-then-not-is_echoed-clause-answered
returns-then-not-is_echoed-clause-answered c = c.answer_read.ensures.answered c.args.line.now c.read_of-read.ensures

pub returns-in-Err-clause-answered : goal.returns-in-Err-clause-answered
returns-in-Err-clause-answered c = c.answer_read-in-Err.ensures.answered c.args.line.now tt
