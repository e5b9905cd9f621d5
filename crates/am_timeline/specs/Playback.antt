-- Playback: a rehearsal that ran, and the notices that were sent in it.
use Rattle.std.specs.Prelude.{ℕ, ◌+◌, Bool, true, false, ◌==◌, List, [], drop, find, Option, None, slice_get}
use Rattle.std.specs.List.{list_any}
use Rattle.std.specs.Option.{option_and_then, option_map, option_map_or}
use Rattle.am_alerts.specs.AlertData.{AlertData}
use Rattle.am_alerts.specs.Labels.{same_label_set}
use Rattle.am_alerts.specs.declared.labels.Label.{Label}
use Rattle.am_retry.specs.declared.outcome.Outcome.{Outcome}
use Rattle.am_retry.specs.declared.outcome.Outcome.TheVariants.{Delivered, Refused, Expired, Starved}
use Rattle.am_model.specs.declared.config.Config.{Config}
use Rattle.am_model.specs.declared.notice.Report.{Report}
use Rattle.am_model.specs.declared.record.Record.{Record}
use Rattle.am_model.specs.look_back.Past.{notices_in}
use Rattle.am_model.specs.Notice.{NoticeData}
use Rattle.am_model.specs.Outcomes.{outcomes_in}
use Rattle.am_model.specs.Ticket.{outcome_of}
use Rattle.am_terms.specs.declared.event.Event.{Event}
use Rattle.am_terms.specs.declared.event.Event.TheVariants.{Begun, Sent}
use Rattle.am_terms.specs.declared.event.PreviewedBegin.{PreviewedBegin}

-- whether one of these alerts has a label set
abbrev pub has_set : List AlertData → List Label → Bool
has_set alerts labels = list_any (λ a. same_label_set a.labels labels) alerts

-- a configuration, a history and what its begins were to do
pub record LogbookData : Type 0 where
  pub config : Config
  pub history : List Record
  pub begins : List PreviewedBegin

-- a rehearsal that ran: its configuration and its history, what its begins were to do, and what happened
pub record PlaybackData : Type 0 where
  pub config : Config
  pub history : List Record
  pub begins : List PreviewedBegin
  pub events : List Event

-- a notice whose sending came to its end: the begin of its flush, what it came to, and how
pub record SentData : Type 0 where
  pub begin : PreviewedBegin
  pub notice : NoticeData
  pub outcome : Outcome
  pub report : Report

-- the notices of the record at an index; none where no flush was opened there
abbrev pub notices_at : List Record → ℕ → List NoticeData
notices_at history index = option_map_or (λ r. notices_in r.reply) (slice_get history index) []

-- the notice for an integration, if there is one
abbrev pub notice_for : ℕ → List NoticeData → Option NoticeData
notice_for integration notices = find (λ n. n.integration == integration) notices

-- what a notice that was begun at an index came to, as the finish of its flush in the later records says
abbrev pub outcome_after : List Record → ℕ → NoticeData → Option Outcome
outcome_after history index n = outcome_of (outcomes_in n.ticket (drop (index + 1) history)) n.integration

-- a notice that a report is on, with what it came to
abbrev pub sent_as : List Record → PreviewedBegin → Report → NoticeData → Option SentData
sent_as history begin report n =
    option_map (λ outcome. record { begin = begin; notice = n; outcome = outcome; report = report }) (outcome_after history begin.index n)

-- the notice of a begin that a report is on, if there is one
abbrev pub sent_by : List Record → Report → PreviewedBegin → Option SentData
sent_by history report begin =
    option_and_then (sent_as history begin report) (notice_for report.integration (notices_at history begin.index))

-- the notice whose sending came to its end by this, if there is one
abbrev pub sent_of : PlaybackData → Event → Option SentData
sent_of playback (Begun begin) = None
sent_of playback (Sent begin report) = option_and_then (sent_by playback.history report) (slice_get playback.begins begin)

-- whether a notice was delivered
abbrev pub is_delivered : Outcome → Bool
is_delivered Delivered = true
is_delivered Refused = false
is_delivered Expired = false
is_delivered Starved = false
