use Rattle.std.proofs.Common.{◌≡◌, ◌∙◌, List, ap, subst}
use Rattle.std.specs.Prelude.{IfOk}
use Rattle.am_model.specs.Ticket.{TicketData}
use Rattle.am_model.specs.declared.views.RowView.{RowView}
use Rattle.am_board.proofs.lemmas.invariant.Logged.{finished_rows-now}
use Rattle.am_board.proofs.lemmas.invariant.Sound.{good}
use Rattle.am_board.proofs.board.Board.finished_rows.Goals as goal

pub rows_to_finish-requires : goal.rows_to_finish-requires
rows_to_finish-requires c = record { good = (c.self.inside.config, good c.self.inside c.self.invariant) }

pub returns : goal.returns
returns c =
    subst (λ (logged : List RowView). IfOk c.rows_to_finish.result (λ rows. rows.items ≡ logged))
    (finished_rows-now c.self.inside c.self.invariant c.args.self.now c.self.view_is c.args.now c.args.ticket.now c.number.result c.number.ensures
    c.as_slice.result.now (c.as_slice.ensures.value ∙ ap (λ (t : TicketData). t.outcomes) c.ticket.view_is))
    (c.rows_to_finish.ensures c.self.inside.config (good c.self.inside c.self.invariant))
