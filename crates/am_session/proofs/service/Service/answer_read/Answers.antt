use Rattle.std.proofs.Common.{Option, Some, subst, sym}
use Rattle.am_session.specs.Line.{AnswersLine}
use Rattle.am_session.specs.Service.{text_of}
use Rattle.am_session.specs.declared.session.Session.{Session}
use Rattle.am_session.proofs.service.Service.answer_read.Goals as goal

pub returns-in-Some-clause-answered : goal.returns-in-Some-clause-answered
returns-in-Some-clause-answered c = λ text is.
    subst (λ (s : Option Session). AnswersLine s text (text_of c.answer_next.result) (Some c.answer_next.new.session)) (sym c.in-Some.is)
    (c.answer_next.ensures text is)

pub returns-in-None-clause-answered : goal.returns-in-None-clause-answered
returns-in-None-clause-answered c = λ text is.
    subst (λ (s : Option Session). AnswersLine s text (text_of c.answer_first.result) c.answer_first.new.self.session) (sym c.in-None.is)
    (c.answer_first.ensures.answered text is)
