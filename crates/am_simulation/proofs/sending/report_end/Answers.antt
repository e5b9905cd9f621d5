use Rattle.std.proofs.Common.{◌∙◌, Bool, ap, sym, if◌then◌else◌}
use Rattle.std.proofs.lemmas.Result.{on_ok_weaker}
use Rattle.am_board.specs.History.{BoardData}
use Rattle.am_model.specs.Ticket.{TicketData}
use Rattle.am_simulation.specs.Scene.{SendingData}
use Rattle.am_simulation.specs.Steps.{with_note, with_report}
use Rattle.am_simulation.proofs.sending.report_end.Goals as goal

pub returns-then-is_success-clause-board : goal.returns-then-is_success-clause-board
returns-then-is_success-clause-board c =
    let e = c.args.end in
    let old : BoardData = c.args.board.now.board in
    let t : TicketData = with_report e.report c.args.sending.now.ticket in
    on_ok_weaker c.note.result
    (λ noted.
    noted
    ∙ ap (λ (s : SendingData). with_note e.at s.ticket e.index c.keep_report.new.board.board) (c.sending.view_is ∙ c.in_ok-keep_report.ensures.sending)
    ∙ ap (with_note e.at t e.index) c.keep_report.ensures.board
    ∙ sym (ap (λ (b : Bool). if b then with_note e.at t e.index old else old) (sym c.is_success.ensures ∙ c.if-is_success.true)))
    c.note.ensures.noted
