use Rattle.std.proofs.Common.{Some}
use Rattle.am_session.proofs.Remarks.{faulted}
use Rattle.am_session.proofs.service.answer_next.Goals as goal

pub returns-in-Err : goal.returns-in-Err
returns-in-Err c = λ text is.
    faulted (Some c.args.session.now) (Some c.respond.new.session) c.args.read text c.args.line.now c.in-Err.fault is c.requires c.in-Err.ensures.unread
    (c.in-Err.ensures.refused text is) _ c.fault_answer.ensures
