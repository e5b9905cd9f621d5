use Rattle.std.proofs.Common.{◌≡◌, List, subst}
use Rattle.std.specs.Prelude.{IfOk}
use Rattle.am_model.specs.declared.views.RowView.{RowView}
use Rattle.am_board.proofs.lemmas.invariant.Calls.{rows_at}
use Rattle.am_board.proofs.lemmas.invariant.Sound.{consistent_now}
use Rattle.am_board.proofs.board.Board.rows.Goals as goal

pub rows_of-requires : goal.rows_of-requires
rows_of-requires c = consistent_now c.self.inside c.self.invariant

pub returns : goal.returns
returns c =
    subst (λ (shown : List RowView). IfOk c.rows_of.result (λ rows. rows.items ≡ shown)) (rows_at c.self.inside c.self.invariant c.args.self.now c.self.view_is)
    c.rows_of.ensures
