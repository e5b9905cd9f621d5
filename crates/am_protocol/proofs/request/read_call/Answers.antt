use Rattle.std.proofs.Common.{subst}
use Rattle.serde_json.specs.View.{view}
use Rattle.am_json.proofs.Decoding.{all_sure, handed_on, sure}
use Rattle.am_protocol.specs.declared.call.CallName.{CallName}
use Rattle.am_protocol.proofs.Asked.{IsSure, of_alertmanager, of_begin, of_check, of_config, of_finish, of_forget, of_insert, of_inserts, of_load, of_maintain, of_note, of_outlook, of_remove_empty_groups, of_report, of_silence, of_status, of_groups, of_next_due, of_open, of_rows, of_summary, of_take_history, of_tickets}
use Rattle.am_protocol.proofs.Refusing.{unasked}
use Rattle.am_protocol.proofs.request.read_call.Goals as goal

pub returns-in_err-read_own-in-Config-clause-refused : goal.returns-in_err-read_own-in-Config-clause-refused
returns-in_err-read_own-in-Config-clause-refused c =
    handed_on (IsSure c.args.value.now.mode c.args.call (view c.args.value.now.value)) c.from_residual.result c.in_err-read_own-in-Config.field-0.0 c.from_residual.ensures.1
    (λ refusal asked is. let one = of_config c.args.value.now.mode (view c.args.value.now.value) asked (subst (λ (n : CallName). IsSure c.args.value.now.mode n (view c.args.value.now.value) asked) c.in-Config.is is) in c.in_err-read_own-in-Config.ensures.refused refusal one.0 (one.1, one.2))

pub returns-in_err-read_theirs-in-Alertmanager-clause-refused : goal.returns-in_err-read_theirs-in-Alertmanager-clause-refused
returns-in_err-read_theirs-in-Alertmanager-clause-refused c =
    handed_on (IsSure c.args.value.now.mode c.args.call (view c.args.value.now.value)) c.from_residual-in_err-read_theirs-in-Alertmanager.result c.in_err-read_theirs-in-Alertmanager.field-0.0 c.from_residual-in_err-read_theirs-in-Alertmanager.ensures.1
    (λ refusal asked is. of_alertmanager c.args.value.now.mode (view c.args.value.now.value) asked (subst (λ (n : CallName). IsSure c.args.value.now.mode n (view c.args.value.now.value) asked) c.in-Alertmanager.is is))

pub returns-in_err-read_clocked-in-Open-clause-refused : goal.returns-in_err-read_clocked-in-Open-clause-refused
returns-in_err-read_clocked-in-Open-clause-refused c =
    handed_on (IsSure c.args.value.now.mode c.args.call (view c.args.value.now.value)) c.from_residual-in_err-read_clocked-in-Open.result c.in_err-read_clocked-in-Open.field-0.0 c.from_residual-in_err-read_clocked-in-Open.ensures.1
    (λ refusal asked is. of_open c.args.value.now.mode (view c.args.value.now.value) asked (subst (λ (n : CallName). IsSure c.args.value.now.mode n (view c.args.value.now.value) asked) c.in-Open.is is))

pub returns-in_err-read-in-Insert-clause-refused : goal.returns-in_err-read-in-Insert-clause-refused
returns-in_err-read-in-Insert-clause-refused c =
    handed_on (IsSure c.args.value.now.mode c.args.call (view c.args.value.now.value)) c.from_residual-in_err-read-in-Insert.result c.in_err-read-in-Insert.field-0.0 c.from_residual-in_err-read-in-Insert.ensures.1
    (λ refusal asked is. let one = of_insert c.args.value.now.mode (view c.args.value.now.value) asked (subst (λ (n : CallName). IsSure c.args.value.now.mode n (view c.args.value.now.value) asked) c.in-Insert.is is) in c.in_err-read-in-Insert.ensures.refused refusal one.0 (one.1, sure))

pub returns-in_err-list-in-Inserts-clause-refused : goal.returns-in_err-list-in-Inserts-clause-refused
returns-in_err-list-in-Inserts-clause-refused c =
    handed_on (IsSure c.args.value.now.mode c.args.call (view c.args.value.now.value)) c.from_residual-in_err-list-in-Inserts.result c.in_err-list-in-Inserts.field-0.0 c.from_residual-in_err-list-in-Inserts.ensures.1
    (λ refusal asked is. let one = of_inserts c.args.value.now.mode (view c.args.value.now.value) asked (subst (λ (n : CallName). IsSure c.args.value.now.mode n (view c.args.value.now.value) asked) c.in-Inserts.is is) in c.in_err-list-in-Inserts.ensures.refused refusal one.0 (one.1, all_sure one.0))

pub returns-in_err-read-in-Silence-clause-refused : goal.returns-in_err-read-in-Silence-clause-refused
returns-in_err-read-in-Silence-clause-refused c =
    handed_on (IsSure c.args.value.now.mode c.args.call (view c.args.value.now.value)) c.from_residual-in_err-read-in-Silence.result c.in_err-read-in-Silence.field-0.0 c.from_residual-in_err-read-in-Silence.ensures.1
    (λ refusal asked is. let one = of_silence c.args.value.now.mode (view c.args.value.now.value) asked (subst (λ (n : CallName). IsSure c.args.value.now.mode n (view c.args.value.now.value) asked) c.in-Silence.is is) in c.in_err-read-in-Silence.ensures.refused refusal one.0 (one.1, one.2))

pub returns-in_err-read-in-Begin-clause-refused : goal.returns-in_err-read-in-Begin-clause-refused
returns-in_err-read-in-Begin-clause-refused c =
    handed_on (IsSure c.args.value.now.mode c.args.call (view c.args.value.now.value)) c.from_residual-in_err-read-in-Begin.result c.in_err-read-in-Begin.field-0.0 c.from_residual-in_err-read-in-Begin.ensures.1
    (λ refusal asked is. let one = of_begin c.args.value.now.mode (view c.args.value.now.value) asked (subst (λ (n : CallName). IsSure c.args.value.now.mode n (view c.args.value.now.value) asked) c.in-Begin.is is) in c.in_err-read-in-Begin.ensures.refused refusal one.0 (one.1, sure))

pub returns-in_err-read-in-Report-clause-refused : goal.returns-in_err-read-in-Report-clause-refused
returns-in_err-read-in-Report-clause-refused c =
    handed_on (IsSure c.args.value.now.mode c.args.call (view c.args.value.now.value)) c.from_residual-in_err-read-in-Report.result c.in_err-read-in-Report.field-0.0 c.from_residual-in_err-read-in-Report.ensures.1
    (λ refusal asked is. let one = of_report c.args.value.now.mode (view c.args.value.now.value) asked (subst (λ (n : CallName). IsSure c.args.value.now.mode n (view c.args.value.now.value) asked) c.in-Report.is is) in c.in_err-read-in-Report.ensures.refused refusal one.0 (one.1, sure))

pub returns-in_err-read-in-Note-clause-refused : goal.returns-in_err-read-in-Note-clause-refused
returns-in_err-read-in-Note-clause-refused c =
    handed_on (IsSure c.args.value.now.mode c.args.call (view c.args.value.now.value)) c.from_residual-in_err-read-in-Note.result c.in_err-read-in-Note.field-0.0 c.from_residual-in_err-read-in-Note.ensures.1
    (λ refusal asked is. let one = of_note c.args.value.now.mode (view c.args.value.now.value) asked (subst (λ (n : CallName). IsSure c.args.value.now.mode n (view c.args.value.now.value) asked) c.in-Note.is is) in c.in_err-read-in-Note.ensures.refused refusal one.0 (one.1, sure))

pub returns-in_err-read-in-Finish-clause-refused : goal.returns-in_err-read-in-Finish-clause-refused
returns-in_err-read-in-Finish-clause-refused c =
    handed_on (IsSure c.args.value.now.mode c.args.call (view c.args.value.now.value)) c.from_residual-in_err-read-in-Finish.result c.in_err-read-in-Finish.field-0.0 c.from_residual-in_err-read-in-Finish.ensures.1
    (λ refusal asked is. let one = of_finish c.args.value.now.mode (view c.args.value.now.value) asked (subst (λ (n : CallName). IsSure c.args.value.now.mode n (view c.args.value.now.value) asked) c.in-Finish.is is) in c.in_err-read-in-Finish.ensures.refused refusal one.0 (one.1, sure))

pub returns-in_err-read-in-Maintain-clause-refused : goal.returns-in_err-read-in-Maintain-clause-refused
returns-in_err-read-in-Maintain-clause-refused c =
    handed_on (IsSure c.args.value.now.mode c.args.call (view c.args.value.now.value)) c.from_residual-in_err-read-in-Maintain.result c.in_err-read-in-Maintain.field-0.0 c.from_residual-in_err-read-in-Maintain.ensures.1
    (λ refusal asked is. let one = of_maintain c.args.value.now.mode (view c.args.value.now.value) asked (subst (λ (n : CallName). IsSure c.args.value.now.mode n (view c.args.value.now.value) asked) c.in-Maintain.is is) in c.in_err-read-in-Maintain.ensures.refused refusal one.0 (one.1, sure))

pub returns-in_err-read-in-RemoveEmptyGroups-clause-refused : goal.returns-in_err-read-in-RemoveEmptyGroups-clause-refused
returns-in_err-read-in-RemoveEmptyGroups-clause-refused c =
    handed_on (IsSure c.args.value.now.mode c.args.call (view c.args.value.now.value)) c.from_residual-in_err-read-in-RemoveEmptyGroups.result c.in_err-read-in-RemoveEmptyGroups.field-0.0 c.from_residual-in_err-read-in-RemoveEmptyGroups.ensures.1
    (λ refusal asked is. let one = of_remove_empty_groups c.args.value.now.mode (view c.args.value.now.value) asked (subst (λ (n : CallName). IsSure c.args.value.now.mode n (view c.args.value.now.value) asked) c.in-RemoveEmptyGroups.is is) in c.in_err-read-in-RemoveEmptyGroups.ensures.refused refusal one.0 (one.1, sure))

pub returns-in_err-read-in-Forget-clause-refused : goal.returns-in_err-read-in-Forget-clause-refused
returns-in_err-read-in-Forget-clause-refused c =
    handed_on (IsSure c.args.value.now.mode c.args.call (view c.args.value.now.value)) c.from_residual-in_err-read-in-Forget.result c.in_err-read-in-Forget.field-0.0 c.from_residual-in_err-read-in-Forget.ensures.1
    (λ refusal asked is. let one = of_forget c.args.value.now.mode (view c.args.value.now.value) asked (subst (λ (n : CallName). IsSure c.args.value.now.mode n (view c.args.value.now.value) asked) c.in-Forget.is is) in c.in_err-read-in-Forget.ensures.refused refusal one.0 (one.1, sure))

pub returns-in_err-read-in-Load-clause-refused : goal.returns-in_err-read-in-Load-clause-refused
returns-in_err-read-in-Load-clause-refused c =
    handed_on (IsSure c.args.value.now.mode c.args.call (view c.args.value.now.value)) c.from_residual-in_err-read-in-Load.result c.in_err-read-in-Load.field-0.0 c.from_residual-in_err-read-in-Load.ensures.1
    (λ refusal asked is. let one = of_load c.args.value.now.mode (view c.args.value.now.value) asked (subst (λ (n : CallName). IsSure c.args.value.now.mode n (view c.args.value.now.value) asked) c.in-Load.is is) in c.in_err-read-in-Load.ensures.refused refusal one.0 (one.1, sure))

pub returns-in_err-read-in-Outlook-clause-refused : goal.returns-in_err-read-in-Outlook-clause-refused
returns-in_err-read-in-Outlook-clause-refused c =
    handed_on (IsSure c.args.value.now.mode c.args.call (view c.args.value.now.value)) c.from_residual-in_err-read-in-Outlook.result c.in_err-read-in-Outlook.field-0.0 c.from_residual-in_err-read-in-Outlook.ensures.1
    (λ refusal asked is. let one = of_outlook c.args.value.now.mode (view c.args.value.now.value) asked (subst (λ (n : CallName). IsSure c.args.value.now.mode n (view c.args.value.now.value) asked) c.in-Outlook.is is) in c.in_err-read-in-Outlook.ensures.refused refusal one.0 (one.1, sure))

pub returns-in_err-read-in-Status-clause-refused : goal.returns-in_err-read-in-Status-clause-refused
returns-in_err-read-in-Status-clause-refused c =
    handed_on (IsSure c.args.value.now.mode c.args.call (view c.args.value.now.value)) c.from_residual-in_err-read-in-Status.result c.in_err-read-in-Status.field-0.0 c.from_residual-in_err-read-in-Status.ensures.1
    (λ refusal asked is. let one = of_status c.args.value.now.mode (view c.args.value.now.value) asked (subst (λ (n : CallName). IsSure c.args.value.now.mode n (view c.args.value.now.value) asked) c.in-Status.is is) in c.in_err-read-in-Status.ensures.refused refusal one.0 (one.1, sure))

pub returns-in-NextDue-clause-refused : goal.returns-in-NextDue-clause-refused
returns-in-NextDue-clause-refused c =
    unasked (IsSure c.args.value.now.mode c.args.call (view c.args.value.now.value)) c.without_arguments.result _
    (λ asked is. of_next_due c.args.value.now.mode (view c.args.value.now.value) asked (subst (λ (n : CallName). IsSure c.args.value.now.mode n (view c.args.value.now.value) asked) c.in-NextDue.is is)) c.without_arguments.ensures.refused

pub returns-in-Rows-clause-refused : goal.returns-in-Rows-clause-refused
returns-in-Rows-clause-refused c =
    unasked (IsSure c.args.value.now.mode c.args.call (view c.args.value.now.value)) c.without_arguments-in-Rows.result _
    (λ asked is. of_rows c.args.value.now.mode (view c.args.value.now.value) asked (subst (λ (n : CallName). IsSure c.args.value.now.mode n (view c.args.value.now.value) asked) c.in-Rows.is is)) c.without_arguments-in-Rows.ensures.refused

pub returns-in-Groups-clause-refused : goal.returns-in-Groups-clause-refused
returns-in-Groups-clause-refused c =
    unasked (IsSure c.args.value.now.mode c.args.call (view c.args.value.now.value)) c.without_arguments-in-Groups.result _
    (λ asked is. of_groups c.args.value.now.mode (view c.args.value.now.value) asked (subst (λ (n : CallName). IsSure c.args.value.now.mode n (view c.args.value.now.value) asked) c.in-Groups.is is)) c.without_arguments-in-Groups.ensures.refused

pub returns-in-Summary-clause-refused : goal.returns-in-Summary-clause-refused
returns-in-Summary-clause-refused c =
    unasked (IsSure c.args.value.now.mode c.args.call (view c.args.value.now.value)) c.without_arguments-in-Summary.result _
    (λ asked is. of_summary c.args.value.now.mode (view c.args.value.now.value) asked (subst (λ (n : CallName). IsSure c.args.value.now.mode n (view c.args.value.now.value) asked) c.in-Summary.is is)) c.without_arguments-in-Summary.ensures.refused

pub returns-in-Tickets-clause-refused : goal.returns-in-Tickets-clause-refused
returns-in-Tickets-clause-refused c =
    unasked (IsSure c.args.value.now.mode c.args.call (view c.args.value.now.value)) c.without_arguments-in-Tickets.result _
    (λ asked is. of_tickets c.args.value.now.mode (view c.args.value.now.value) asked (subst (λ (n : CallName). IsSure c.args.value.now.mode n (view c.args.value.now.value) asked) c.in-Tickets.is is)) c.without_arguments-in-Tickets.ensures.refused

pub returns-in-TakeHistory-clause-refused : goal.returns-in-TakeHistory-clause-refused
returns-in-TakeHistory-clause-refused c =
    unasked (IsSure c.args.value.now.mode c.args.call (view c.args.value.now.value)) c.without_arguments-in-TakeHistory.result _
    (λ asked is. of_take_history c.args.value.now.mode (view c.args.value.now.value) asked (subst (λ (n : CallName). IsSure c.args.value.now.mode n (view c.args.value.now.value) asked) c.in-TakeHistory.is is)) c.without_arguments-in-TakeHistory.ensures.refused

pub returns-in_err-read-in-Check-clause-refused : goal.returns-in_err-read-in-Check-clause-refused
returns-in_err-read-in-Check-clause-refused c =
    handed_on (IsSure c.args.value.now.mode c.args.call (view c.args.value.now.value)) c.from_residual-in_err-read-in-Check.result c.in_err-read-in-Check.field-0.0 c.from_residual-in_err-read-in-Check.ensures.1
    (λ refusal asked is. let one = of_check c.args.value.now.mode (view c.args.value.now.value) asked (subst (λ (n : CallName). IsSure c.args.value.now.mode n (view c.args.value.now.value) asked) c.in-Check.is is) in c.in_err-read-in-Check.ensures.refused refusal one.0 (one.1, one.2))
