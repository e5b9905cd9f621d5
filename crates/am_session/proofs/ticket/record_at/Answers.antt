use Rattle.std.proofs.Common.{◌≡◌, None, Some, ap, slice_set}
use Rattle.std.proofs.lemmas.Option.{slice_get_read}
use Rattle.std.proofs.lemmas.Result.{on_ok_weaker}
use Rattle.am_model.specs.Ticket.{TicketData, recorded, report_fault}
use Rattle.am_session.proofs.Leaving.{if_err_weaker}
use Rattle.am_session.specs.Ticket.{HasFaultAt, IsRecordedAt, report_on}
use Rattle.am_session.proofs.ticket.record_at.Goals as goal

pub returns-clause-ok : goal.returns-clause-ok
returns-clause-ok c =
    let was = c.args.tickets.now.items in
    let own : TicketData = c.index_mut.result.now in
    let report = report_on own c.args.integration c.args.outcome in
    on_ok_weaker {Q = IsRecordedAt was c.args.index c.args.integration c.args.outcome (slice_set was c.args.index c.record.new.own)} c.record.result
    (λ (is : (report_fault own report ≡ None) × (c.record.new.own ≡ recorded own report)).
    (own, slice_get_read was _ c.args.index own c.args.tickets.now.ok.0 c.requires c.index_mut.ensures.value, is.0, ap (slice_set was c.args.index) is.1))
    c.record.ensures.ok

pub returns-clause-fault : goal.returns-clause-fault
returns-clause-fault c =
    let was = c.args.tickets.now.items in
    let own : TicketData = c.index_mut.result.now in
    let report = report_on own c.args.integration c.args.outcome in
    if_err_weaker (λ fault. report_fault own report ≡ Some fault) (HasFaultAt was c.args.index c.args.integration c.args.outcome) c.record.result
    (λ fault is. (own, slice_get_read was _ c.args.index own c.args.tickets.now.ok.0 c.requires c.index_mut.ensures.value, is)) c.record.ensures.fault
