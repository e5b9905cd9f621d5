use Rattle.std.proofs.Common.{◌+◌, List, ap, sym, subst, arith}
use Rattle.am_alerts.specs.declared.labels.Label.{Label}
use Rattle.am_nflog.specs.Log.{Slots}
use Rattle.am_model.specs.declared.group.GroupName.{GroupName}
use Rattle.am_board.proofs.lemmas.begin.ReservedRows.{ReservingRows, reserving_rows_step}
use Rattle.am_board.proofs.begin.reserve_rows.Goals as goal

pub loop-notified-preserved : goal.loop-notified-preserved
loop-notified-preserved c =
    subst (λ (log : Slots GroupName (List Label)). ReservingRows c.args.log.now log c.as_slice-notified-items.result.now c.args.flush.now.group (c.loop-notified.notified-index + 1))
    (sym c.in_ok-reserve.ensures.ok)
    (reserving_rows_step c.args.log.now c.loop-notified.log c.as_slice-notified-items.result.now c.args.flush.now.group c.loop-notified.notified-index
    (record { group = c.in_ok-copy.field-0; integration = c.notified-item.result.key.integration }) c.notified-item.result (omega arith) c.notified-item.is
    (ap (λ (group : GroupName). record { group = group; integration = c.notified-item.result.key.integration }) c.in_ok-copy.ensures)
    c.loop-notified.invariant)
