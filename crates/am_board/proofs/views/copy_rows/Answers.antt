use Rattle.std.proofs.Common.{◌<◌, ◌++◌, ◌∷◌, [], List, Option, length, sym, ap, ◌∙◌, arith}
use Rattle.std.specs.Option.{option_copied}
use Rattle.am_alerts.specs.declared.labels.Label.{Label}
use Rattle.am_nflog.specs.declared.key.LogKey.{LogKey}
use Rattle.am_nflog.specs.declared.row.LogRow.{LogRow}
use Rattle.am_model.specs.declared.group.GroupName.{GroupName}
use Rattle.am_board.specs.LogRows.{log_rows}
use Rattle.am_board.proofs.lemmas.invariant.Shown.{log_rows-more}
use Rattle.am_board.proofs.views.copy_rows.Goals as goal

pub loop-i-preserved : goal.loop-i-preserved
loop-i-preserved c =
    let within : c.loop-i.i < length c.args.log.now = omega (arith, c.len-i-end.ensures.len, c.loop-i-test.true) in
    let slot : LogKey GroupName × Option (LogRow (List Label)) = (c.row.result.0.now, option_copied c.row.result.1) in
    c.in_ok-push_row.ensures ∙ ap (λ rows. rows ++ log_rows (slot ∷ [])) c.loop-i.invariant ∙ sym (log_rows-more c.args.log.now c.loop-i.i slot within c.row.ensures)
