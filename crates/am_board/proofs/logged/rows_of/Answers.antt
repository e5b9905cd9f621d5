use Rattle.std.proofs.Common.{◌++◌, ◌∷◌, [], List, ap, sym, ◌∙◌, arith}
use Rattle.am_model.specs.declared.views.RowView.{RowView}
use Rattle.am_board.proofs.lemmas.finish.LoggedRows.{rows_for, rows_for-more}
use Rattle.am_board.proofs.logged.rows_of.Goals as goal

pub loop-one-preserved : goal.loop-one-preserved
loop-one-preserved c =
    let flush = c.args.flush.now in
    c.in_ok-push_row.ensures
    ∙ ap (λ (rows : List RowView). rows ++ rows_for flush c.args.t c.args.outcomes.now (c.one-item.result ∷ [])) c.loop-one.invariant
    ∙ sym (rows_for-more flush c.args.t c.args.outcomes.now c.as_slice-notified.result.now c.loop-one.one-index c.one-item.result (omega arith) c.one-item.is)
