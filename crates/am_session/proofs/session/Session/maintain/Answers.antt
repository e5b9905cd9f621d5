use Rattle.std.proofs.Common.{refl}
use Rattle.am_protocol.specs.declared.request.Request.TheVariants.{Maintain}
use Rattle.am_session.proofs.Leaving.{board_unmade, made_all, unmade_leaves}
use Rattle.am_session.proofs.Making.{made}
use Rattle.am_session.proofs.session.Session.maintain.Goals as goal

pub returns-in-Ok-clause-answered : goal.returns-in-Ok-clause-answered
returns-in-Ok-clause-answered c = made _ _ _ _ _ _ _ c.in-Ok.ensures.reply c.in-Ok.ensures.recorded c.answer_with.ensures.answered

pub returns-in-Ok-clause-refused : goal.returns-in-Ok-clause-refused
returns-in-Ok-clause-refused c =
    made_all _ _ _ (Maintain (record { now = c.args.now })) _ _ (λ _ makes. (makes, refl)) (λ e. absurd (cc)) c.in-Ok.ensures.reply c.in-Ok.ensures.recorded c.answer_with.ensures.untold

pub returns-in-Err-clause-refused : goal.returns-in-Err-clause-refused
returns-in-Err-clause-refused c = unmade_leaves _ _ _ (Maintain (record { now = c.args.now })) (board_unmade _ _ _ c.of_board.ensures) (_, c.in-Err.ensures.cause, c.of_board.ensures) (c.in-Err.ensures.refused, refl)
