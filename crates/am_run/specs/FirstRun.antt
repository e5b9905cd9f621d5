-- The first worked run: one alert, one flush, one notice.
use Rattle.std.specs.Prelude.{◌≡◌, ℕ, true, List, [], ◌∷◌, ◌++◌, codes, None, Some}
use Rattle.am_alerts.specs.AlertData.{AlertData, alert_of}
use Rattle.am_alerts.specs.declared.labels.Label.{Label}
use Rattle.am_alerts.specs.declared.route.Route.{Route}
use Rattle.am_alerts.specs.declared.route.GroupBy.TheVariants.{Names}
use Rattle.am_alerts.specs.RoutingTree.{tree_of}
use Rattle.am_retry.specs.declared.outcome.Outcome.TheVariants.{Delivered}
use Rattle.am_model.specs.declared.config.Config.{Config}
use Rattle.am_model.specs.declared.group.GroupName.{GroupName}
use Rattle.am_model.specs.declared.notice.Report.{Report}
use Rattle.am_model.specs.declared.record.Call.TheVariants as call
use Rattle.am_model.specs.declared.record.Record.{Record}
use Rattle.am_model.specs.declared.record.Reply.TheVariants as reply
use Rattle.am_model.specs.Config.{default_limits}
use Rattle.am_model.specs.Notice.{NoticeData}
use Rattle.am_model.specs.Records.{entry, flush_reply}
use Rattle.am_model.specs.Replay.{IsLegal}
use Rattle.am_run.specs.Report.{report_text}

-- the label set of the alert
abbrev pub labels : List Label
labels = record { name = codes "alertname"; value = codes "A" } ∷ []

abbrev pub alert : AlertData
alert = alert_of labels 0 None

-- the alert goes to the root, which groups by its name
abbrev pub group : GroupName
group = record { route = 0; labels = labels }

abbrev pub root : Route
root =
    record {
      name = codes "root";
      receiver = codes "team";
      group_by = Names (codes "alertname" ∷ []);
      group_wait = 30_000;
      group_interval = 300_000;
      repeat_interval = 14_400_000;
    }

abbrev pub config : Config
config =
    record {
      routes = tree_of root [];
      receivers = record { name = codes "team"; integrations = record { kind = codes "hook"; send_resolved = true } ∷ [] } ∷ [];
      rules = [];
      retention = 432_000_000;
      limits = default_limits;
    }

abbrev pub notice : NoticeData
notice =
    record { board_id = 1; ticket = 1; deadline = 330_000; group = group; integration = 0; firing = alert ∷ []; resolved = [] }

-- an insert, a begin that opens a flush, one that finds nothing due, the note of the success and the finish
abbrev pub history : List Record
history =
    entry 1 (call.Insert 0 alert) (reply.Inserted (record { stamp = 1; groups = 1; made = 1 }))
    ∷ entry 0 (call.Begin 30_000) (flush_reply 1 group 330_000 (notice ∷ []))
    ∷ entry 0 (call.Begin 30_000) reply.NothingDue
    ∷ entry 0 (call.Note 30_000 1 0 (Some Delivered)) reply.Noted
    ∷ entry 0 (call.Finish 30_000 1 ((0, Delivered) ∷ [])) (reply.Finished (record { logged = 0; removed = 0 }))
    ∷ []

-- the notice was delivered by its first attempt
abbrev pub reports : List Report
reports = record { board_id = 1; ticket = 1; integration = 0; outcome = Delivered; attempts = 1; ended = 30_000 } ∷ []

abbrev pub text : List ℕ
text =
    codes "notice 1 root:{alertname=\"A\"} hook/0 delivered attempts=1 firing=[{alertname=\"A\"}] resolved=[]\n"
    ++ codes "row root:{alertname=\"A\"} hook/0 at=30000 expiry=28830000 firing=[{alertname=\"A\"}] resolved=[]\n"
    ++ codes "group root:{alertname=\"A\"} due=330000 flushed=yes alerts=[{alertname=\"A\"}]\n"
    ++ codes "calls 5\n"

-- the history is legal
abbrev pub FirstIsLegal : Type 0
FirstIsLegal = IsLegal config 1 history

-- its report has these four lines
abbrev pub FirstRunReportIs : Type 0
FirstRunReportIs = report_text config reports history ≡ text
