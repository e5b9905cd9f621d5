-- Timeline: what happened in a rehearsal, a line for each event.
use Rattle.std.specs.Prelude.{ℕ, ◌+◌, Bool, true, false, not, ◌&&◌, ◌==◌, List, [], ◌∷◌, ◌++◌, length, codes, decimal}
use Rattle.std.specs.Prelude.{min, nat_lt, Option, None, Some, slice_get, if◌then◌else◌}
use Rattle.std.specs.List.{flat_map, join_by, list_all}
use Rattle.std.specs.Option.{option_map_or}
use Rattle.am_alerts.specs.AlertData.{AlertData}
use Rattle.am_alerts.specs.declared.labels.Label.{Label}
use Rattle.am_alerts.specs.declared.limits.TheConstants.{MAX_TIME}
use Rattle.am_mute.specs.declared.mute.MuteCause.{MuteCause}
use Rattle.am_mute.specs.declared.mute.MuteCause.TheVariants.{Silenced, Inhibited}
use Rattle.am_retry.specs.declared.outcome.Outcome.{Outcome}
use Rattle.am_retry.specs.declared.outcome.Outcome.TheVariants.{Delivered, Refused, Expired, Starved}
use Rattle.am_model.specs.declared.config.Config.{Config}
use Rattle.am_model.specs.declared.group.GroupName.{GroupName}
use Rattle.am_model.specs.declared.preview.MutedAlert.{MutedAlert}
use Rattle.am_model.specs.declared.preview.Preview.{Preview}
use Rattle.am_model.specs.declared.reason.Reason.{Reason}
use Rattle.am_model.specs.declared.reason.Reason.TheVariants.{FirstNotice, NewAlert, AllResolved, NewlyResolved, Repeat, NothingLeft}
use Rattle.am_model.specs.declared.reason.Reason.TheVariants.{NothingFiring, NotYet, RouteMuted}
use Rattle.am_model.specs.Configured.{route_of}
use Rattle.am_model.specs.look_back.Reasons.{notifies}
use Rattle.am_model.specs.Notice.{NoticeData, is_nothing}
use Rattle.am_terms.specs.declared.event.Event.{Event}
use Rattle.am_terms.specs.declared.event.Event.TheVariants.{Begun, Sent}
use Rattle.am_terms.specs.declared.event.PreviewedBegin.{PreviewedBegin}
use Rattle.am_timeline.specs.declared.remark.Edge.{Edge}
use Rattle.am_timeline.specs.declared.remark.Remark.{Remark}
use Rattle.am_timeline.specs.declared.remark.Remark.TheVariants.{NoneLeft, Muted, NoIntegrations, NotAsked, NothingToSend}
use Rattle.am_timeline.specs.Expiry.{expired}
use Rattle.am_timeline.specs.IntegrationName.{target_name}
use Rattle.am_timeline.specs.Shown.{text_shown, set_shown, sets_shown}
use Rattle.am_timeline.specs.Playback.{PlaybackData, SentData, notices_at, notice_for, sent_of}
use Rattle.am_terms.specs.TimeFormatData.{TimeFormatData, column}

-- the label set of an alert
abbrev pub labels_of : AlertData → List Label
labels_of a = a.labels

-- the front of a line: the time, and a word
abbrev pub time_text : TimeFormatData → ℕ → List ℕ → List ℕ
time_text times at word = column times at ++ word

-- a group: the name of its route and its group labels
abbrev pub group_shown : Config → GroupName → List ℕ
group_shown config name = (route_of config name).name ++ set_shown name.labels

-- a group and its receiver
abbrev pub group_receiver_text : Config → GroupName → List ℕ
group_receiver_text config name = group_shown config name ++ codes " -> " ++ text_shown (route_of config name).receiver

-- a group, its receiver and an integration of that
abbrev pub target_shown : Config → GroupName → ℕ → List ℕ
target_shown config name position = group_receiver_text config name ++ codes " " ++ target_name config name position

-- why an integration is asked, or why not
abbrev pub reason_words : Reason → List ℕ
reason_words FirstNotice = codes "first notice"
reason_words NewAlert = codes "new alert"
reason_words AllResolved = codes "all resolved"
reason_words NewlyResolved = codes "newly resolved"
reason_words Repeat = codes "repeat"
reason_words NothingLeft = codes "nothing left"
reason_words NothingFiring = codes "nothing fires"
reason_words (NotYet from) = codes "nothing new, repeat from "
reason_words (RouteMuted until) = codes "route muted until "

-- from when on a notice is repeated that isn't yet, or until when the route is muted
abbrev pub repeat_text : TimeFormatData → Reason → List ℕ
repeat_text times FirstNotice = []
repeat_text times NewAlert = []
repeat_text times AllResolved = []
repeat_text times NewlyResolved = []
repeat_text times Repeat = []
repeat_text times NothingLeft = []
repeat_text times NothingFiring = []
repeat_text times (NotYet from) = times.text from
repeat_text times (RouteMuted until) = times.text until

-- a reason
abbrev pub reason_text : TimeFormatData → Reason → List ℕ
reason_text times reason = reason_words reason ++ repeat_text times reason

-- whether a begin at t is on the edge for an integration: its entry is exactly as old as `repeat_interval`, so the first time from which
-- it is repeated is 1 ms later. Alertmanager's times have parts of a millisecond: it repeats at this flush or at the next one
abbrev pub is_on_edge : ℕ → Reason → Bool
is_on_edge t FirstNotice = false
is_on_edge t NewAlert = false
is_on_edge t AllResolved = false
is_on_edge t NewlyResolved = false
is_on_edge t Repeat = false
is_on_edge t NothingLeft = false
is_on_edge t NothingFiring = false
is_on_edge t (NotYet from) = from == t + 1
is_on_edge t (RouteMuted until) = false

-- when the group of a begin is flushed next: `group_interval` later
abbrev pub next_flush : Config → Preview → ℕ
next_flush config o = min (o.time + (route_of config o.group).group_interval) MAX_TIME

-- a begin that is on the edge for an integration, with the next flush: the notice is repeated at one of the two
abbrev pub edge_of : Config → Preview → Reason → Option Edge
edge_of config o reason = if is_on_edge o.time reason then Some (record { at = o.time; next = next_flush config o }) else None

-- a time behind a word
unfoldable pub time_behind : TimeFormatData → List ℕ → ℕ → List ℕ
time_behind times word t = word ++ times.text t

-- that a notice is repeated at one of two flushes
unfoldable pub edge_text : TimeFormatData → Edge → List ℕ
edge_text times edge =
    time_behind times (codes "repeat at ") edge.at ++ time_behind times (codes " or ") edge.next ++ codes ": on the edge"

-- why an integration isn't asked at a begin; it can be on the edge for it
abbrev pub quiet_reason_text : TimeFormatData → Reason → Option Edge → List ℕ
quiet_reason_text times reason edge = option_map_or (edge_text times) edge (reason_text times reason)

-- when the entry expired whose lack makes a notice a first one, if it had
abbrev pub expiry_if_first : Option ℕ → Reason → Option ℕ
expiry_if_first expiry FirstNotice = expiry
expiry_if_first expiry NewAlert = None
expiry_if_first expiry AllResolved = None
expiry_if_first expiry NewlyResolved = None
expiry_if_first expiry Repeat = None
expiry_if_first expiry NothingLeft = None
expiry_if_first expiry NothingFiring = None
expiry_if_first expiry (NotYet from) = None
expiry_if_first expiry (RouteMuted until) = None

-- that the log entry expired
abbrev pub expired_text : TimeFormatData → ℕ → List ℕ
expired_text times at = codes "log entry expired at " ++ times.text at

-- why a notice was sent, where the log entry had expired at this time, if it had
abbrev pub sent_reason_text : TimeFormatData → Option ℕ → Reason → List ℕ
sent_reason_text times expiry reason = option_map_or (expired_text times) (expiry_if_first expiry reason) (reason_text times reason)

-- the same in words, without the time
abbrev pub sent_words : Option ℕ → Reason → List ℕ
sent_words expiry reason = option_map_or (λ at. codes "log entry expired") (expiry_if_first expiry reason) (reason_words reason)

-- behind how many attempts something came, and when they began
abbrev pub attempts_text : TimeFormatData → ℕ → ℕ → List ℕ
attempts_text times attempts since =
    codes " after " ++ decimal attempts ++ (if attempts == 1 then codes " attempt" else codes " attempts")
    ++ codes " since " ++ times.text since

-- the same of a notice that was delivered: nothing where the first attempt did it
abbrev pub retries_text : TimeFormatData → ℕ → ℕ → List ℕ
retries_text times attempts since = if attempts == 1 then [] else attempts_text times attempts since

-- the alerts of a notice that fire, or that are resolved; nothing where there is none
abbrev pub alerts_text : List ℕ → List AlertData → List ℕ
alerts_text word [] = []
alerts_text word (a ∷ alerts) = word ++ sets_shown labels_of (a ∷ alerts)

-- whether the sending of a notice ended after the deadline of its flush
abbrev pub is_late : SentData → Bool
is_late s = nat_lt s.notice.deadline s.report.ended

-- that a sending ended after this deadline, at which Alertmanager would have cut it off
abbrev pub past_text : TimeFormatData → ℕ → List ℕ
past_text times deadline = codes ", past its deadline " ++ times.text deadline ++ codes ", at which Alertmanager cuts it off"

-- that a sending ended after the deadline of its flush, if it did
abbrev pub late_text : TimeFormatData → SentData → List ℕ
late_text times s = if is_late s then past_text times s.notice.deadline else []

-- that a notice was delivered
abbrev pub delivered_text : Config → TimeFormatData → SentData → List ℕ
delivered_text config times s =
    time_text times s.report.ended (codes "notice  ") ++ target_shown config s.notice.group s.notice.integration
    ++ codes " delivered" ++ retries_text times s.report.attempts s.begin.preview.time ++ late_text times s

-- that a notice wasn't delivered, and what it came to
abbrev pub failed_text : Config → TimeFormatData → SentData → List ℕ → List ℕ
failed_text config times s word =
    time_text times s.report.ended (codes "failed  ") ++ target_shown config s.notice.group s.notice.integration
    ++ word ++ attempts_text times s.report.attempts s.begin.preview.time ++ late_text times s

-- what a notice came to
abbrev pub outcome_text : Outcome → Config → TimeFormatData → SentData → List ℕ
outcome_text Delivered config times s = delivered_text config times s
outcome_text Refused config times s = failed_text config times s (codes " refused")
outcome_text Expired config times s = failed_text config times s (codes " expired")
outcome_text Starved config times s = failed_text config times s (codes " starved")

-- why a notice was sent, and the alerts that it has
abbrev pub content_text : TimeFormatData → Option ℕ → Reason → NoticeData → List ℕ
content_text times expiry reason n =
    codes ": " ++ sent_reason_text times expiry reason ++ alerts_text (codes "; firing ") n.firing
    ++ alerts_text (codes "; resolved ") n.resolved ++ codes "\n"

-- when the log entry expired whose lack a notice found, if it had
abbrev pub expiry_before : PlaybackData → SentData → Option ℕ
expiry_before playback s = expired playback.config playback.history s.begin.index s.notice.integration

-- a notice that was sent for a reason
abbrev pub line_for : PlaybackData → TimeFormatData → SentData → Reason → List ℕ
line_for playback times s reason =
    outcome_text s.outcome playback.config times s ++ content_text times (expiry_before playback s) reason s.notice

-- a notice whose sending ended, with the reason that the preview has for its integration; nothing where it has none
abbrev pub sent_line : PlaybackData → TimeFormatData → SentData → List ℕ
sent_line playback times s =
    option_map_or (line_for playback times s) (slice_get s.begin.preview.reasons s.notice.integration) []

-- how an alert is muted
abbrev pub cause_words : MuteCause → List ℕ
cause_words (Silenced id until) = codes " silenced until "
cause_words (Inhibited rule by) = codes " inhibited by "

-- until when an alert is silenced, or because of which alert it is inhibited, and by which rule
abbrev pub cause_shown : TimeFormatData → MuteCause → List ℕ
cause_shown times (Silenced id until) = times.text until
cause_shown times (Inhibited rule by) = set_shown by ++ codes " (rule " ++ decimal rule ++ codes ")"

-- why an alert is muted
abbrev pub cause_text : TimeFormatData → MuteCause → List ℕ
cause_text times cause = cause_words cause ++ cause_shown times cause

-- a muted alert, and why it is
abbrev pub muted_alert_text : TimeFormatData → MutedAlert → List ℕ
muted_alert_text times m = set_shown m.labels ++ cause_text times m.cause

-- muted alerts
abbrev pub muted_text : TimeFormatData → List MutedAlert → List ℕ
muted_text times muted = join_by (muted_alert_text times) (codes "; ") muted

-- how a line on a begin is framed: the time at its front, and what ends it
pub record FrameData : Type 0 where
  pub time : ℕ
  pub ending : List ℕ

-- the frame of a line of its own: the time of its begin, and a line feed
abbrev pub own_frame : Preview → FrameData
own_frame o = record { time = o.time; ending = codes "\n" }

-- whether an integration is asked though there is nothing to send
abbrev pub is_sent_nothing : List NoticeData → ℕ → Bool
is_sent_nothing notices position = option_map_or is_nothing (notice_for position notices) false

-- whether a reason is that nothing is left
abbrev pub is_left : Reason → Bool
is_left FirstNotice = false
is_left NewAlert = false
is_left AllResolved = false
is_left NewlyResolved = false
is_left Repeat = false
is_left NothingLeft = true
is_left NothingFiring = false
is_left (NotYet from) = false
is_left (RouteMuted until) = false

-- whether nothing is left of a group, as the reasons of its receiver's integrations say
abbrev pub nothing_left : List Reason → Bool
nothing_left reasons = not (length reasons == 0) && list_all is_left reasons

-- what is said of an integration at a begin: nothing where there is something to send
abbrev pub remark_on : Config → Preview → List NoticeData → ℕ → Reason → Option Remark
remark_on config o notices position reason =
    if notifies reason then (if is_sent_nothing notices position then Some (NothingToSend position) else None)
    else Some (NotAsked position reason (edge_of config o reason))

-- a remark, if there is one, before others
abbrev pub before : Option Remark → List Remark → List Remark
before None remarks = remarks
before (Some remark) remarks = remark ∷ remarks

-- what is said of the integrations from a position on
abbrev pub remarks_from : Config → Preview → List NoticeData → ℕ → List Reason → List Remark
remarks_from config o notices position [] = []
remarks_from config o notices position (reason ∷ reasons) =
    before (remark_on config o notices position reason) (remarks_from config o notices (position + 1) reasons)

-- what is said of the integrations at a begin at which something is left, or that there is none
abbrev pub remarks_on_integrations : Config → Preview → List NoticeData → List Remark
remarks_on_integrations config o notices =
    if length o.reasons == 0 then NoIntegrations ∷ [] else remarks_from config o notices 0 o.reasons

-- what is said of a begin with these notices
abbrev pub remarks_with : Config → Preview → List NoticeData → List Remark
remarks_with config o notices =
    if nothing_left o.reasons then NoneLeft ∷ []
    else (if length o.muted == 0 then remarks_on_integrations config o notices else Muted ∷ remarks_on_integrations config o notices)

-- remarks: what is said of a begin: which alerts are muted, and who is sent nothing
abbrev pub remarks : PlaybackData → PreviewedBegin → List Remark
remarks playback begin = remarks_with playback.config begin.preview (notices_at playback.history begin.index)

-- what is left of a group: no alerts, or muted ones
abbrev pub nothing_left_text : TimeFormatData → List MutedAlert → List ℕ
nothing_left_text times muted = if length muted == 0 then codes "no alerts" else muted_text times muted

-- what a line on a begin is about
abbrev pub remark_word : Remark → List ℕ
remark_word NoneLeft = codes "quiet   "
remark_word Muted = codes "muted   "
remark_word NoIntegrations = codes "quiet   "
remark_word (NotAsked position reason edge) = codes "quiet   "
remark_word (NothingToSend position) = codes "quiet   "

-- of whom something is said: a group, its receiver or an integration of that
abbrev pub remark_target : Config → GroupName → Remark → List ℕ
remark_target config name NoneLeft = group_shown config name
remark_target config name Muted = group_shown config name
remark_target config name NoIntegrations = group_receiver_text config name
remark_target config name (NotAsked position reason edge) = target_shown config name position
remark_target config name (NothingToSend position) = target_shown config name position

-- what is said, where these alerts are muted
abbrev pub remark_text : TimeFormatData → List MutedAlert → Remark → List ℕ
remark_text times muted NoneLeft = nothing_left_text times muted
remark_text times muted Muted = muted_text times muted
remark_text times muted NoIntegrations = codes "no integrations"
remark_text times muted (NotAsked position reason edge) = quiet_reason_text times reason edge
remark_text times muted (NothingToSend position) = codes "all resolved, which it isn't sent"

-- the line on a remark
abbrev pub remark_line : Config → TimeFormatData → FrameData → Preview → Remark → List ℕ
remark_line config times frame o remark =
    time_text times frame.time (remark_word remark) ++ remark_target config o.group remark ++ codes ": "
    ++ remark_text times o.muted remark ++ frame.ending

-- a begin: a line for each remark
abbrev pub begun_lines : PlaybackData → TimeFormatData → FrameData → PreviewedBegin → List ℕ
begun_lines playback times frame begin = flat_map (remark_line playback.config times frame begin.preview) (remarks playback begin)

-- the lines on a begin, each with its own time
abbrev pub own_lines : PlaybackData → TimeFormatData → PreviewedBegin → List ℕ
own_lines playback times begin = begun_lines playback times (own_frame begin.preview) begin

-- the lines on an event
abbrev pub event_lines : PlaybackData → TimeFormatData → Event → List ℕ
event_lines playback times (Begun begin) = option_map_or (own_lines playback times) (slice_get playback.begins begin) []
event_lines playback times (Sent begin report) =
    option_map_or (sent_line playback times) (sent_of playback (Sent begin report)) []

-- timeline: the lines on all events
abbrev pub timeline_text : PlaybackData → TimeFormatData → List ℕ
timeline_text playback times = flat_map (event_lines playback times) playback.events
