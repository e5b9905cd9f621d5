-- The report: the text of a history.
use Rattle.std.specs.Prelude.{◌≡◌, ℕ, Bool, ◌&&◌, ◌==◌, List, [], ◌∷◌, ◌++◌, length, codes, decimal, Option, Some, None}
use Rattle.std.specs.Prelude.{if◌then◌else◌}
use Rattle.std.specs.List.{flat_map, join_by}
use Rattle.am_alerts.specs.AlertData.{AlertData}
use Rattle.am_alerts.specs.LabelText.{label_set_text}
use Rattle.am_alerts.specs.Route.{key_text_of}
use Rattle.am_alerts.specs.declared.labels.Label.{Label}
use Rattle.am_retry.specs.declared.outcome.Outcome.{Outcome}
use Rattle.am_retry.specs.declared.outcome.Outcome.TheVariants.{Delivered, Refused, Expired, Starved}
use Rattle.am_model.specs.declared.config.Config.{Config}
use Rattle.am_model.specs.declared.group.GroupName.{GroupName}
use Rattle.am_model.specs.declared.notice.Report.{Report}
use Rattle.am_model.specs.declared.record.Record.{Record}
use Rattle.am_model.specs.declared.views.GroupView.{GroupView}
use Rattle.am_model.specs.declared.views.RowView.{RowView}
use Rattle.am_model.specs.Configured.{route_of, integration_text}
use Rattle.am_model.specs.Notice.{NoticeData, is_nothing}
use Rattle.am_model.specs.look_back.Past.{notices_in}
use Rattle.am_model.specs.Replay.{replay, IsLegal}
use Rattle.am_model.specs.Outcomes.{outcomes_in}
use Rattle.am_model.specs.Ticket.{outcome_of}
use Rattle.am_model.specs.Views.{row_views, group_views}

-- the label set of an alert
abbrev pub labels_of : AlertData → List Label
labels_of a = a.labels

-- a label set is its own
abbrev pub as_it_is : List Label → List Label
as_it_is labels = labels

-- a list of what has label sets: `[`, the sets with `,` between them, and `]`
abbrev pub list_text : {T : Type 0} → (T → List Label) → List T → List ℕ
list_text labels items = codes "[" ++ join_by (λ i. label_set_text (labels i)) (codes ",") items ++ codes "]"

-- what fires and what is resolved
abbrev pub lists_text : {T : Type 0} → (T → List Label) → List T → List T → List ℕ
lists_text labels firing resolved =
    codes " firing=" ++ list_text labels firing ++ codes " resolved=" ++ list_text labels resolved

-- a group: the name of its route, `:` and its group labels
abbrev pub group_text : Config → GroupName → List ℕ
group_text config name = key_text_of (route_of config name) name.labels

-- whom something is for: a group and an integration of its receiver
abbrev pub target_text : Config → GroupName → ℕ → List ℕ
target_text config name position = group_text config name ++ codes " " ++ integration_text config name position

-- what was reported of the sending of a notice, if anything was
abbrev pub reported_text : Option Outcome → List ℕ
reported_text None = codes "unreported"
reported_text (Some Delivered) = codes "delivered"
reported_text (Some Refused) = codes "refused"
reported_text (Some Expired) = codes "expired"
reported_text (Some Starved) = codes "starved"

-- what the sending of a notice came to: nothing exactly where there was nothing to send
abbrev pub outcome_text : NoticeData → Option Outcome → List ℕ
outcome_text n outcome = if is_nothing n then codes "nothing" else reported_text outcome

-- the line on a notice that had this outcome after so many attempts
abbrev pub notice_line : Config → NoticeData → Option Outcome → ℕ → List ℕ
notice_line config n outcome attempts =
    codes "notice " ++ decimal n.ticket ++ codes " " ++ target_text config n.group n.integration
    ++ codes " " ++ outcome_text n outcome ++ codes " attempts=" ++ decimal attempts
    ++ lists_text labels_of n.firing n.resolved ++ codes "\n"

-- the line on a row of the log
abbrev pub row_line : Config → RowView → List ℕ
row_line config row =
    codes "row " ++ target_text config row.group row.integration
    ++ codes " at=" ++ decimal row.time ++ codes " expiry=" ++ decimal row.expiry
    ++ lists_text as_it_is row.firing row.resolved ++ codes "\n"

-- whether a group was flushed
abbrev pub flushed_text : Bool → List ℕ
flushed_text flushed = if flushed then codes "yes" else codes "no"

-- the line on a group
abbrev pub group_line : Config → GroupView → List ℕ
group_line config g =
    codes "group " ++ group_text config g.group ++ codes " due=" ++ decimal g.due
    ++ codes " flushed=" ++ flushed_text g.flushed ++ codes " alerts=" ++ list_text labels_of g.alerts ++ codes "\n"

-- the line on how many calls there were
abbrev pub calls_line : ℕ → List ℕ
calls_line calls = codes "calls " ++ decimal calls ++ codes "\n"

-- what the sending of a notice came to, as the finish of its flush in these records says
abbrev pub outcome_in : NoticeData → List Record → Option Outcome
outcome_in n later = outcome_of (outcomes_in n.ticket later) n.integration

-- how many attempts the first of these reports on a notice says; none where there is no report
abbrev pub attempts_on : ℕ → ℕ → List Report → ℕ
attempts_on ticket integration [] = 0
attempts_on ticket integration (r ∷ rs) =
    if (r.ticket == ticket) && (r.integration == integration) then r.attempts else attempts_on ticket integration rs

-- the line on a notice that these records follow
abbrev pub line_on : Config → List Report → List Record → NoticeData → List ℕ
line_on config reports later n =
    notice_line config n (outcome_in n later) (attempts_on n.ticket n.integration reports)

-- the lines on the notices of a history, in the order of the begins
abbrev pub notice_lines : Config → List Report → List Record → List ℕ
notice_lines config reports [] = []
notice_lines config reports (r ∷ later) =
    flat_map (line_on config reports later) (notices_in r.reply) ++ notice_lines config reports later

-- the report on a history: its notices, then the log's rows and the groups that it leaves, then how many calls it has
abbrev pub report_text : Config → List Report → List Record → List ℕ
report_text config reports history =
    notice_lines config reports history
    ++ flat_map (row_line config) (row_views (replay config history))
    ++ flat_map (group_line config) (group_views (replay config history))
    ++ calls_line (length history)

-- the text is the report on this history, which is legal on the board of this configuration and id, and on some reports of its notices
pub record IsReportOn (config : Config) (id : ℕ) (history : List Record) (text : List ℕ) : Type 0 where
  pub reports : List Report
  pub legal : IsLegal config id history
  pub is : text ≡ report_text config reports history
