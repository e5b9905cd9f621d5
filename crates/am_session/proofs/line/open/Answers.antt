use Rattle.std.proofs.Common.{refl}
use Rattle.am_session.proofs.Answering.{opened_text, unopened_text}
use Rattle.am_session.proofs.line.open.Goals as goal

pub returns-in-Open-clause-answered : goal.returns-in-Open-clause-answered
returns-in-Open-clause-answered c =
    opened_text c.open_session.result (λ made. made.1.items) (λ made. made.0) c.args.read c.args.line.now c.in_ok-opening.field-0 c.in-Open.opening c.in-Open.is
    c.in_ok-opening.ensures.requested c.open_session.ensures.answered

pub returns-in-Open-clause-refused : goal.returns-in-Open-clause-refused
returns-in-Open-clause-refused c =
    unopened_text c.open_session.result c.args.read c.args.line.now c.in_ok-opening.field-0 c.in-Open.opening c.in-Open.is
    c.in_ok-opening.ensures.requested c.open_session.ensures.refused

pub returns-in-Open-clause-unread : goal.returns-in-Open-clause-unread
returns-in-Open-clause-unread c = λ e. absurd (c.in_ok-opening.ensures.unread e)

pub returns : goal.returns
returns c = record {
  answered = tt;
  refused = λ text heard. (c.in_ok-opening.field-0, c.in_ok-opening.ensures.requested text heard, (c.in_default.not-Open, (refl, refl)));
  unread = λ e. absurd (c.in_ok-opening.ensures.unread e);
}
