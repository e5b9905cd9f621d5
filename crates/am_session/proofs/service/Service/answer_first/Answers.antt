use Rattle.std.proofs.Common.{None, Option, subst, sym}
use Rattle.am_session.specs.Line.{AnswersLine}
use Rattle.am_session.specs.Service.{text_of}
use Rattle.am_session.specs.declared.session.Session.{Session}
use Rattle.am_session.proofs.Remarks.{faulted}
use Rattle.am_session.proofs.service.Service.answer_first.Goals as goal

pub returns-in-Err-clause-answered : goal.returns-in-Err-clause-answered
returns-in-Err-clause-answered c = λ text is.
    subst (λ (s : Option Session). AnswersLine None text (text_of c.fault_answer.result) s) (sym c.requires.session)
    (faulted None None c.args.read text c.args.line.now c.in-Err.fault is c.requires.other c.in-Err.ensures.unread (c.in-Err.ensures.refused text is) _ c.fault_answer.ensures)
