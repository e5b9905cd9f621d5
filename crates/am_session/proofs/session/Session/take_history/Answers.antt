use Rattle.std.proofs.Common.{inr, refl}
use Rattle.am_board.specs.History.{take_cause}
use Rattle.am_session.proofs.Leaving.{untaken}
use Rattle.am_session.proofs.Making.{handed_follow, handed_legal}
use Rattle.am_session.proofs.session.Session.take_history.Goals as goal

pub returns-in-Ok-clause-answered : goal.returns-in-Ok-clause-answered
returns-in-Ok-clause-answered c = (
  record {
    board = c.in-Ok.ensures.after;
    follow = handed_follow c.args.self.now.board _ c.in-Ok.ensures.after c.in_ok-line.ensures.follow;
    legal = handed_legal c.args.self.now.board _ c.in-Ok.ensures.after c.in_ok-line.ensures.legal;
    tickets = refl;
  },
  c.in_ok-line.ensures.line,
  c.in_ok-line.ensures.one,
)

pub returns-clause-refused : goal.returns-clause-refused
returns-clause-refused c =
    ((c.in-Err-TooManyCalls.ensures.refused, refl), inr (untaken (take_cause c.args.self.now.board) _ c.in-Err-TooManyCalls.field-0-is c.in-Err-TooManyCalls.ensures.cause, (refl, refl)))
