use Rattle.am_session.proofs.Answering.{answered_read, refused_read}
use Rattle.am_session.proofs.line.respond.Goals as goal

pub returns-clause-answered : goal.returns-clause-answered
returns-clause-answered c =
    answered_read c.answer_request.result (λ made. made.items) c.args.session.now c.answer_request.new.session c.in_ok-request.request c.args.read c.args.line.now
    c.in_ok-request.ensures.requested c.answer_request.ensures.answered

pub returns-clause-refused : goal.returns-clause-refused
returns-clause-refused c =
    refused_read c.answer_request.result c.args.session.now c.answer_request.new.session c.in_ok-request.request c.args.read c.args.line.now
    c.in_ok-request.ensures.requested c.answer_request.ensures.refused

pub returns-clause-unread : goal.returns-clause-unread
returns-clause-unread c = λ e. absurd (c.in_ok-request.ensures.unread e)
