use Rattle.std.proofs.Common.{◌∙◌, ap}
use Rattle.std.proofs.lemmas.Result.{on_ok_weaker}
use Rattle.am_model.specs.Ticket.{TicketData}
use Rattle.am_model.specs.declared.record.Record.{Record}
use Rattle.am_simulation.specs.Previews.{takes_group}
use Rattle.am_simulation.specs.Steps.{with_note}
use Rattle.am_simulation.specs.declared.limits.TheConstants.{BOARD_ID}
use Rattle.am_simulation.proofs.Calling.{noted_is}
use Rattle.am_simulation.proofs.PreviewsHold.{holds_over}
use Rattle.am_simulation.specs.Planned.{input_of}
use Rattle.am_simulation.proofs.Doing.{input_trace-same}
use Rattle.am_simulation.proofs.previewing.PreviewingBoard.note.Goals as goal

pub invariant_of-self : goal.invariant_of-self
invariant_of-self c =
    let was = c.args.self.now in
    let holds =
    holds_over BOARD_ID was.begins.items was.board c.note.new.self (was.ours, was.whole, was.previews) c.note.result
    (on_ok_weaker c.note.result (λ noted. (noted.0, ap (λ (r : Record). takes_group r.reply) noted.1.2, noted.2)) c.note.ensures.noted)
    c.note.ensures.refused in
    record { ours = holds.0; whole = holds.1; previews = holds.2; begun = was.begun }

pub returns-in-Ok-clause-input_trace : goal.returns-in-Ok-clause-input_trace
returns-in-Ok-clause-input_trace c =
    let noted = c.in-Ok.ensures.noted in
    input_trace-same c.args.self.now.board c.note.new.self (noted.0, ap (λ (r : Record). input_of r.call) noted.1.2, noted.2)

pub returns-in-Ok-clause-noted : goal.returns-in-Ok-clause-noted
returns-in-Ok-clause-noted c =
    noted_is c.args.now c.ticket.result.now c.args.index c.args.self.now.board c.note.new.self c.in-Ok.ensures.cause c.in-Ok.ensures.noted
    ∙ ap (λ (t : TicketData). with_note c.args.now t c.args.index c.args.self.now.board) c.ticket.ensures.ticket
