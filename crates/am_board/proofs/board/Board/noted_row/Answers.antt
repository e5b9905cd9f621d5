use Rattle.std.proofs.Common.{◌≡◌, Option, subst}
use Rattle.std.specs.Prelude.{IfOk}
use Rattle.am_model.specs.declared.views.RowView.{RowView}
use Rattle.am_board.proofs.lemmas.invariant.Logged.{noted_row-now}
use Rattle.am_board.proofs.lemmas.invariant.Sound.{good}
use Rattle.am_board.proofs.board.Board.noted_row.Goals as goal

pub row_to_note-requires : goal.row_to_note-requires
row_to_note-requires c = record { good = (c.self.inside.config, good c.self.inside c.self.invariant) }

pub returns : goal.returns
returns c =
    subst (λ (logged : Option RowView). IfOk c.row_to_note.result (λ row. row ≡ logged))
    (noted_row-now c.self.inside c.self.invariant c.args.self.now c.self.view_is c.args.now c.args.ticket.now c.number.result c.number.ensures c.args.integration)
    (c.row_to_note.ensures c.self.inside.config (good c.self.inside c.self.invariant))
