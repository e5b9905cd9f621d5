-- LogRows: the stored log as the list of its rows.
use Rattle.std.specs.Prelude.{List, map}
use Rattle.am_alerts.specs.declared.labels.Label.{Label}
use Rattle.am_nflog.specs.Log.{Slots, rows_of}
use Rattle.am_nflog.specs.declared.key.LogKey.{LogKey}
use Rattle.am_nflog.specs.declared.row.LogRow.{LogRow}
use Rattle.am_model.specs.declared.group.GroupName.{GroupName}
use Rattle.am_model.specs.declared.views.RowView.{RowView}

-- a row of the log with the key that it is under
abbrev pub row_under : LogKey GroupName × LogRow (List Label) → RowView
row_under e =
    record {
      group = e.0.group;
      integration = e.0.integration;
      time = e.1.time;
      expiry = e.1.expiry;
      firing = e.1.firing;
      resolved = e.1.resolved;
    }

-- the rows of a log, in the order in which their keys came
abbrev pub log_rows : Slots GroupName (List Label) → List RowView
log_rows log = map row_under (rows_of log)
