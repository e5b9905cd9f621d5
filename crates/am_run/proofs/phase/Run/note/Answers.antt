use Rattle.std.proofs.Common.{subst}
use Rattle.am_model.specs.Records.{IsNoteOf}
use Rattle.am_model.specs.Ticket.{TicketData}
use Rattle.am_pool.specs.Sendings.{note_at}
use Rattle.am_run.proofs.lemmas.phases.Noting.{note_left, note_made}
use Rattle.am_run.proofs.phase.Run.note.Goals as goal

pub returns-in-Ok-clause-noted : goal.returns-in-Ok-clause-noted
returns-in-Ok-clause-noted g c none n there =
    let p = c.args.self.now.main in
    let done = c.in-Ok.ensures.done in
    note_made g.N.Name.terms p c.note.new.pass _ done.0 c.args.now c.args.own.now c.args.index n there
    (subst (λ (t : TicketData). IsNoteOf p.number c.args.now t c.args.index done.0) c.ticket.ensures.ticket done.1) done.2

pub returns-in-Err-HistoryFull-clause-noted : goal.returns-in-Err-HistoryFull-clause-noted
returns-in-Err-HistoryFull-clause-noted g c none n there =
    let refused = rw c.in-Err-HistoryFull.field-0-is at c.in-Err-HistoryFull.ensures.refused in
    note_left g.N.Name.terms c.args.self.now.main c.note.new.pass c.ticket.result.now c.args.index (note_at c.args.now c.args.own.now n) refused.0 refused.1
