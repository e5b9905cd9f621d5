use Rattle.std.proofs.Common.{refl}
use Rattle.am_protocol.specs.declared.request.Request.TheVariants.{Check, Groups, NextDue, Outlook, Rows, Status, Summary, Tickets}
use Rattle.am_session.proofs.Leaving.{memory_all}
use Rattle.am_session.proofs.Making.{both, shown}
use Rattle.am_session.proofs.session.Session.answer.Goals as goal

pub returns-in-Open-clause-answered : goal.returns-in-Open-clause-answered
returns-in-Open-clause-answered c = rw c.in-Open.is c.reopen.ensures.answered

pub returns-in-Open-clause-refused : goal.returns-in-Open-clause-refused
returns-in-Open-clause-refused c = rw c.in-Open.is c.reopen.ensures.refused

pub returns-in-Insert-clause-answered : goal.returns-in-Insert-clause-answered
returns-in-Insert-clause-answered c = rw c.in-Insert.is (both _ _ _ c.insert.ensures.answered c.insert.ensures.tickets)

pub returns-in-Insert-clause-refused : goal.returns-in-Insert-clause-refused
returns-in-Insert-clause-refused c = rw c.in-Insert.is c.insert.ensures.refused

pub returns-in-Silence-clause-answered : goal.returns-in-Silence-clause-answered
returns-in-Silence-clause-answered c = rw c.in-Silence.is (both _ _ _ c.silence.ensures.answered c.silence.ensures.tickets)

pub returns-in-Silence-clause-refused : goal.returns-in-Silence-clause-refused
returns-in-Silence-clause-refused c = rw c.in-Silence.is c.silence.ensures.refused

pub returns-in-Begin-clause-answered : goal.returns-in-Begin-clause-answered
returns-in-Begin-clause-answered c = rw c.in-Begin.is c.begin.ensures.answered

pub returns-in-Begin-clause-refused : goal.returns-in-Begin-clause-refused
returns-in-Begin-clause-refused c = rw c.in-Begin.is c.begin.ensures.refused

pub returns-in-Report-clause-answered : goal.returns-in-Report-clause-answered
returns-in-Report-clause-answered c = rw c.in-Report.is (both _ _ _ c.report.ensures.answered c.report.ensures.board)

pub returns-in-Report-clause-refused : goal.returns-in-Report-clause-refused
returns-in-Report-clause-refused c = rw c.in-Report.is c.report.ensures.refused

pub returns-in-Note-clause-answered : goal.returns-in-Note-clause-answered
returns-in-Note-clause-answered c = rw c.in-Note.is (both _ _ _ c.note.ensures.answered c.note.ensures.tickets)

pub returns-in-Note-clause-refused : goal.returns-in-Note-clause-refused
returns-in-Note-clause-refused c = rw c.in-Note.is c.note.ensures.refused

pub returns-in-Finish-clause-answered : goal.returns-in-Finish-clause-answered
returns-in-Finish-clause-answered c = rw c.in-Finish.is c.finish.ensures.answered

pub returns-in-Finish-clause-refused : goal.returns-in-Finish-clause-refused
returns-in-Finish-clause-refused c = rw c.in-Finish.is c.finish.ensures.refused

pub returns-in-Maintain-clause-answered : goal.returns-in-Maintain-clause-answered
returns-in-Maintain-clause-answered c = rw c.in-Maintain.is (both _ _ _ c.maintain.ensures.answered c.maintain.ensures.tickets)

pub returns-in-Maintain-clause-refused : goal.returns-in-Maintain-clause-refused
returns-in-Maintain-clause-refused c = rw c.in-Maintain.is c.maintain.ensures.refused

pub returns-in-RemoveEmptyGroups-clause-answered : goal.returns-in-RemoveEmptyGroups-clause-answered
returns-in-RemoveEmptyGroups-clause-answered c = rw c.in-RemoveEmptyGroups.is (both _ _ _ c.remove_empty_groups.ensures.answered c.remove_empty_groups.ensures.tickets)

pub returns-in-RemoveEmptyGroups-clause-refused : goal.returns-in-RemoveEmptyGroups-clause-refused
returns-in-RemoveEmptyGroups-clause-refused c = rw c.in-RemoveEmptyGroups.is c.remove_empty_groups.ensures.refused

pub returns-in-Forget-clause-answered : goal.returns-in-Forget-clause-answered
returns-in-Forget-clause-answered c = rw c.in-Forget.is (both _ _ _ c.forget.ensures.answered c.forget.ensures.tickets)

pub returns-in-Forget-clause-refused : goal.returns-in-Forget-clause-refused
returns-in-Forget-clause-refused c = rw c.in-Forget.is c.forget.ensures.refused

pub returns-in-Load-clause-answered : goal.returns-in-Load-clause-answered
returns-in-Load-clause-answered c = rw c.in-Load.is (both _ _ _ c.load.ensures.answered c.load.ensures.tickets)

pub returns-in-Load-clause-refused : goal.returns-in-Load-clause-refused
returns-in-Load-clause-refused c = rw c.in-Load.is c.load.ensures.refused

pub returns-in-NextDue-clause-answered : goal.returns-in-NextDue-clause-answered
returns-in-NextDue-clause-answered c = rw c.in-NextDue.is (shown _ _ _ _ c.show_due.ensures.answered)

pub returns-in-NextDue-clause-refused : goal.returns-in-NextDue-clause-refused
returns-in-NextDue-clause-refused c = rw c.in-NextDue.is (memory_all _ c.args.self.now c.args.self.now NextDue c.show_due.ensures.refused (λ f is. is) (refl, refl))

pub returns-in-Outlook-clause-answered : goal.returns-in-Outlook-clause-answered
returns-in-Outlook-clause-answered c = rw c.in-Outlook.is (shown _ _ _ _ c.show_outlook.ensures.answered)

pub returns-in-Outlook-clause-refused : goal.returns-in-Outlook-clause-refused
returns-in-Outlook-clause-refused c = rw c.in-Outlook.is (memory_all _ c.args.self.now c.args.self.now (Outlook c.in-Outlook.timed) c.show_outlook.ensures.refused (λ f is. is) (refl, refl))

pub returns-in-Status-clause-answered : goal.returns-in-Status-clause-answered
returns-in-Status-clause-answered c = rw c.in-Status.is (shown _ _ _ _ c.show_status.ensures.answered)

pub returns-in-Status-clause-refused : goal.returns-in-Status-clause-refused
returns-in-Status-clause-refused c = rw c.in-Status.is (memory_all _ c.args.self.now c.args.self.now (Status c.in-Status.asked) c.show_status.ensures.refused (λ f is. is) (refl, refl))

pub returns-in-Rows-clause-answered : goal.returns-in-Rows-clause-answered
returns-in-Rows-clause-answered c = rw c.in-Rows.is (shown _ _ _ _ c.show_rows.ensures.answered)

pub returns-in-Rows-clause-refused : goal.returns-in-Rows-clause-refused
returns-in-Rows-clause-refused c = rw c.in-Rows.is (memory_all _ c.args.self.now c.args.self.now Rows c.show_rows.ensures.refused (λ f is. is) (refl, refl))

pub returns-in-Groups-clause-answered : goal.returns-in-Groups-clause-answered
returns-in-Groups-clause-answered c = rw c.in-Groups.is (shown _ _ _ _ c.show_groups.ensures.answered)

pub returns-in-Groups-clause-refused : goal.returns-in-Groups-clause-refused
returns-in-Groups-clause-refused c = rw c.in-Groups.is (memory_all _ c.args.self.now c.args.self.now Groups c.show_groups.ensures.refused (λ f is. is) (refl, refl))

pub returns-in-Summary-clause-answered : goal.returns-in-Summary-clause-answered
returns-in-Summary-clause-answered c = rw c.in-Summary.is (shown _ _ _ _ c.show_summary.ensures.answered)

pub returns-in-Summary-clause-refused : goal.returns-in-Summary-clause-refused
returns-in-Summary-clause-refused c = rw c.in-Summary.is (memory_all _ c.args.self.now c.args.self.now Summary c.show_summary.ensures.refused (λ f is. is) (refl, refl))

pub returns-in-Tickets-clause-answered : goal.returns-in-Tickets-clause-answered
returns-in-Tickets-clause-answered c = rw c.in-Tickets.is (shown _ _ _ _ c.show_tickets.ensures.answered)

pub returns-in-Tickets-clause-refused : goal.returns-in-Tickets-clause-refused
returns-in-Tickets-clause-refused c = rw c.in-Tickets.is (memory_all _ c.args.self.now c.args.self.now Tickets c.show_tickets.ensures.refused (λ f is. is) (refl, refl))

pub returns-in-Inserts-clause-answered : goal.returns-in-Inserts-clause-answered
returns-in-Inserts-clause-answered c = rw c.in-Inserts.is c.insert_all.ensures.answered

pub returns-in-Inserts-clause-refused : goal.returns-in-Inserts-clause-refused
returns-in-Inserts-clause-refused c = rw c.in-Inserts.is c.insert_all.ensures.refused

pub returns-in-Check-clause-answered : goal.returns-in-Check-clause-answered
returns-in-Check-clause-answered c = rw c.in-Check.is (shown _ _ _ _ c.show_checked.ensures.answered)

pub returns-in-Check-clause-refused : goal.returns-in-Check-clause-refused
returns-in-Check-clause-refused c = rw c.in-Check.is (memory_all _ c.args.self.now c.args.self.now (Check c.in-Check.part) c.show_checked.ensures.refused (λ f is. is) (refl, refl))
