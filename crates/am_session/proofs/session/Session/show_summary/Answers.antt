use Rattle.am_session.proofs.session.Session.show_summary.Goals as goal

pub returns-clause-answered : goal.returns-clause-answered
returns-clause-answered c = (c.summary.result, c.summary.ensures.summary, c.in_ok-write_summary.ensures)
