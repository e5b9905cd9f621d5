use Rattle.std.proofs.Common.{◌∙◌, Ok, ap}
use Rattle.am_session.proofs.Making.{noted_answered}
use Rattle.am_session.proofs.session.Session.answer_noted.Goals as goal

pub returns-in-Ok-Some-clause-answered : goal.returns-in-Ok-Some-clause-answered
returns-in-Ok-Some-clause-answered c =
    noted_answered c.answered.result c.write_noted.result c.args.row c.in-Ok-Some.row c.config.result.now c.args.self.now.board.config c.args.answer.now
    c.write_noted.new.answer c.answered.ensures.ok (c.in-Ok-Some.is ∙ ap (λ o. Ok o) c.in-Ok-Some.field-0-is) c.config.ensures.config c.write_noted.ensures
