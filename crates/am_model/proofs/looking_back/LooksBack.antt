-- What looking back says of every legal history, in one.
use Rattle.am_model.specs.look_back.Laws.{EveryLegalHistory, LooksBack}
use Rattle.am_model.proofs.looking_back.alerts.AlertsShown.{shown_alerts_are_found}
use Rattle.am_model.proofs.looking_back.reasons.WhomNeeded.{begins_notify_exactly_whom_needed, notices_list_present_alerts}
use Rattle.am_model.proofs.looking_back.flushes.BeginIntervals.{begins_keep_the_interval}
use Rattle.am_model.proofs.legal.Consistent.{consistent_replay}
use Rattle.am_model.proofs.looking_back.flushes.FlushesOnce.{flushes_end_once}
use Rattle.am_model.proofs.looking_back.alerts.FoundAlerts.{alerts_are_found}
use Rattle.am_model.proofs.looking_back.rows.FoundRows.{rows_are_found}
use Rattle.am_model.proofs.looking_back.reasons.ReasonsAreExact.{begins_have_reasons}
use Rattle.am_model.proofs.looking_back.alerts.Refiring.{refiring_alerts_stay}
use Rattle.am_model.proofs.looking_back.rows.LoadedRows.{loads_put_later_rows}
use Rattle.am_model.proofs.looking_back.rows.RowsDelivered.{shown_rows_are_found, only_delivered_is_logged, rows_come_by_delivery, rows_were_delivered}

pub histories_look_back : EveryLegalHistory LooksBack
histories_look_back config id history legal =
    record {
      consistent = consistent_replay config history;
      alerts = alerts_are_found config id history legal;
      shown_alerts = shown_alerts_are_found config id history legal;
      rows = rows_are_found config id history legal;
      shown_rows = shown_rows_are_found config id history legal;
      only_delivered = only_delivered_is_logged config id history legal;
      new_rows = rows_come_by_delivery config id history legal;
      delivered = rows_were_delivered config id history legal;
      loads = loads_put_later_rows config id history legal;
      refiring = refiring_alerts_stay config id history legal;
      once = flushes_end_once config id history legal;
      notified = begins_notify_exactly_whom_needed config id history legal;
      notices = notices_list_present_alerts config id history legal;
      interval = begins_keep_the_interval config id history legal;
      reasons = begins_have_reasons config id history legal;
    }
