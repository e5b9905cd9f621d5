-- Json: the timeline as JSON. Each line is an object.
use Rattle.std.specs.Prelude.{ℕ, ◌&&◌, nat_lt, nat_le, List, [], ◌∷◌, ◌++◌, map, codes, Option, slice_get}
use Rattle.std.specs.Prelude.{if◌then◌else◌}
use Rattle.std.specs.Char.{encode_utf8}
use Rattle.std.specs.List.{flat_map}
use Rattle.std.specs.Option.{option_map_or}
use Rattle.std.specs.Str.{chars}
use Rattle.serde_json.specs.Data.{Data, number, string, array, object, unsigned, Members, no_members, put}
use Rattle.serde_json.specs.View.{items_of}
use Rattle.serde_json.specs.Written.{compact_text}
use Rattle.am_alerts.specs.AlertData.{AlertData}
use Rattle.am_alerts.specs.declared.labels.Label.{Label}
use Rattle.am_mute.specs.declared.mute.MuteCause.{MuteCause}
use Rattle.am_mute.specs.declared.mute.MuteCause.TheVariants.{Silenced, Inhibited}
use Rattle.am_retry.specs.declared.outcome.Outcome.{Outcome}
use Rattle.am_retry.specs.declared.outcome.Outcome.TheVariants.{Delivered, Refused, Expired, Starved}
use Rattle.am_model.specs.declared.config.Config.{Config}
use Rattle.am_model.specs.declared.group.GroupName.{GroupName}
use Rattle.am_model.specs.declared.preview.MutedAlert.{MutedAlert}
use Rattle.am_model.specs.declared.preview.Preview.{Preview}
use Rattle.am_model.specs.declared.reason.Reason.{Reason}
use Rattle.am_model.specs.declared.reason.Reason.TheVariants.{FirstNotice, NewAlert, AllResolved, NewlyResolved, Repeat, NothingLeft}
use Rattle.am_model.specs.declared.reason.Reason.TheVariants.{NothingFiring, NotYet, RouteMuted}
use Rattle.am_model.specs.Configured.{route_of, integration_text}
use Rattle.am_model.specs.Notice.{NoticeData}
use Rattle.am_terms.specs.declared.event.Event.{Event}
use Rattle.am_terms.specs.declared.event.Event.TheVariants.{Begun, Sent}
use Rattle.am_terms.specs.declared.event.PreviewedBegin.{PreviewedBegin}
use Rattle.am_terms.specs.TimeFormatData.{TimeFormatData}
use Rattle.am_timeline.specs.IntegrationName.{target_name}
use Rattle.am_timeline.specs.Shown.{hex_text}
use Rattle.am_timeline.specs.Playback.{PlaybackData, SentData, is_delivered, sent_of}
use Rattle.am_timeline.specs.Timeline.{expiry_before, expiry_if_first, is_late, labels_of, reason_words, remarks}
use Rattle.am_timeline.specs.declared.remark.Edge.{Edge}
use Rattle.am_timeline.specs.declared.remark.Remark.{Remark}
use Rattle.am_timeline.specs.declared.remark.Remark.TheVariants.{NoneLeft, Muted, NoIntegrations, NotAsked, NothingToSend}

-- a member of an object: its name and its value
abbrev pub Member : Type 0
Member = List ℕ × Data

-- a member whose value is a text
abbrev pub text_at : List ℕ → List ℕ → Member
text_at name text = (name, string text)

-- a member whose value is a whole number
abbrev pub number_at : List ℕ → ℕ → Member
number_at name n = (name, number (unsigned n))

-- members put into an object one after another: each goes to its index in the order of the names, and in place of one of its name
unfoldable pub put_all : Members → List Member → Members
put_all old [] = old
put_all old (m ∷ more) = put_all (put m.0 m.1 old) more

-- an object into which these members were put
abbrev pub object_of : List Member → Data
object_of members = object (put_all no_members members)

-- a label: its name and its value
abbrev pub label_member : Label → Member
label_member l = text_at l.name l.value

-- a label set: an object of its labels
abbrev pub set_data : List Label → Data
set_data labels = object_of (map label_member labels)

-- the label sets of alerts
abbrev pub sets_data : List AlertData → Data
sets_data alerts = array (items_of (map (λ a. set_data (labels_of a)) alerts))

-- that an alert is silenced, and until when
abbrev pub silenced_members : ℕ → List Member
silenced_members until = text_at (codes "cause") (codes "silenced") ∷ number_at (codes "until") until ∷ []

-- that an alert is inhibited, because of which alert, and by which rule
abbrev pub inhibited_members : ℕ → List Label → List Member
inhibited_members rule by =
    text_at (codes "cause") (codes "inhibited") ∷ (codes "by", set_data by) ∷ number_at (codes "rule") rule ∷ []

-- why an alert is muted
abbrev pub cause_members : MuteCause → List Member
cause_members (Silenced id until) = silenced_members until
cause_members (Inhibited rule by) = inhibited_members rule by

-- a muted alert: its label set, and why it is muted
abbrev pub muted_alert_data : MutedAlert → Data
muted_alert_data m = object_of ((codes "labels", set_data m.labels) ∷ cause_members m.cause)

-- muted alerts
abbrev pub muted_data : List MutedAlert → Data
muted_data muted = array (items_of (map muted_alert_data muted))

-- what each line begins with: what happened, when, and of which group
unfoldable pub event_members : Config → TimeFormatData → List ℕ → ℕ → GroupName → List Member
event_members config times event at group =
    text_at (codes "event") event ∷ number_at (codes "at") at ∷ text_at (codes "time") (times.text at)
    ∷ text_at (codes "route") (route_of config group).name ∷ (codes "group", set_data group.labels) ∷ []

-- a group's receiver
abbrev pub receiver_member : Config → GroupName → Member
receiver_member config group = text_at (codes "receiver") (route_of config group).receiver

-- a group's receiver and an integration of that: by its kind and position, and by its name
unfoldable pub integration_members : Config → GroupName → ℕ → List Member
integration_members config group position =
    receiver_member config group ∷ text_at (codes "integration") (integration_text config group position)
    ∷ text_at (codes "integration_name") (target_name config group position) ∷ []

-- a reason with a time
abbrev pub timed_members : List ℕ → List ℕ → ℕ → List Member
timed_members words name at = text_at (codes "reason") words ∷ number_at name at ∷ []

-- why an integration is asked, or why not
abbrev pub reason_members : Reason → List Member
reason_members FirstNotice = text_at (codes "reason") (reason_words FirstNotice) ∷ []
reason_members NewAlert = text_at (codes "reason") (reason_words NewAlert) ∷ []
reason_members AllResolved = text_at (codes "reason") (reason_words AllResolved) ∷ []
reason_members NewlyResolved = text_at (codes "reason") (reason_words NewlyResolved) ∷ []
reason_members Repeat = text_at (codes "reason") (reason_words Repeat) ∷ []
reason_members NothingLeft = text_at (codes "reason") (reason_words NothingLeft) ∷ []
reason_members NothingFiring = text_at (codes "reason") (reason_words NothingFiring) ∷ []
reason_members (NotYet from) = timed_members (codes "nothing new") (codes "from") from
reason_members (RouteMuted until) = timed_members (codes "route muted") (codes "until") until

-- that the log entry expired
abbrev pub expiry_members : ℕ → List Member
expiry_members at = timed_members (codes "log entry expired") (codes "expired") at

-- why a notice was sent, where the log entry had expired at this time, if it had
abbrev pub sent_reason_members : Option ℕ → Reason → List Member
sent_reason_members expiry reason = option_map_or expiry_members (expiry_if_first expiry reason) (reason_members reason)

-- what happened to a notice
abbrev pub sent_event : Outcome → List ℕ
sent_event outcome = if is_delivered outcome then codes "notice" else codes "failed"

-- what a notice came to
abbrev pub outcome_word : Outcome → List ℕ
outcome_word Delivered = codes "delivered"
outcome_word Refused = codes "refused"
outcome_word Expired = codes "expired"
outcome_word Starved = codes "starved"

-- the deadline of a notice whose sending ended after it
abbrev pub late_members : SentData → List Member
late_members s = if is_late s then number_at (codes "deadline") s.notice.deadline ∷ [] else []

-- how a sending went: its outcome, how many attempts it took, since when, and the deadline that it missed
abbrev pub outcome_members : SentData → List Member
outcome_members s =
    text_at (codes "outcome") (outcome_word s.outcome) ∷ number_at (codes "attempts") s.report.attempts
    ∷ number_at (codes "since") s.begin.preview.time ∷ late_members s

-- the alerts of a notice that fire, and those that are resolved
abbrev pub content_members : NoticeData → List Member
content_members n = (codes "firing", sets_data n.firing) ∷ (codes "resolved", sets_data n.resolved) ∷ []

-- a notice whose sending came to its end: to whom, and how it went
unfoldable pub sending_members : Config → TimeFormatData → SentData → List Member
sending_members config times s =
    event_members config times (sent_event s.outcome) s.report.ended s.notice.group
    ++ integration_members config s.notice.group s.notice.integration ++ outcome_members s

-- the same with the reason that it was sent for, and its alerts
unfoldable pub sent_members : PlaybackData → TimeFormatData → SentData → Reason → List Member
sent_members playback times s reason =
    sending_members playback.config times s ++ sent_reason_members (expiry_before playback s) reason ++ content_members s.notice

-- the muted alerts of a begin
abbrev pub muted_member : List MutedAlert → Member
muted_member muted = (codes "muted", muted_data muted)

-- that nothing is left of a group: no alerts, or muted ones
abbrev pub left_members : List MutedAlert → List Member
left_members muted = text_at (codes "reason") (codes "nothing left") ∷ muted_member muted ∷ []

-- that a group's receiver has no integrations
abbrev pub unasked_members : Config → GroupName → List Member
unasked_members config group = receiver_member config group ∷ text_at (codes "reason") (codes "no integrations") ∷ []

-- when the next flush begins, if a begin is on the edge for an integration: the notice is repeated at one of the two
abbrev pub edge_members : Option Edge → List Member
edge_members edge = option_map_or (λ e. number_at (codes "edge") e.next ∷ []) edge []

-- an integration that isn't asked at a begin, and why; it can be on the edge for it
abbrev pub not_asked_members : Config → GroupName → ℕ → Reason → Option Edge → List Member
not_asked_members config group position reason edge =
    integration_members config group position ++ reason_members reason ++ edge_members edge

-- an integration that is asked at a begin, but has nothing to send
abbrev pub nothing_to_send_members : Config → GroupName → ℕ → List Member
nothing_to_send_members config group position =
    integration_members config group position ++ text_at (codes "reason") (codes "all resolved, which it isn't sent") ∷ []

-- what is said of a begin that has this preview
abbrev pub said_members : Config → Preview → Remark → List Member
said_members config o NoneLeft = left_members o.muted
said_members config o Muted = muted_member o.muted ∷ []
said_members config o NoIntegrations = unasked_members config o.group
said_members config o (NotAsked position reason edge) = not_asked_members config o.group position reason edge
said_members config o (NothingToSend position) = nothing_to_send_members config o.group position

-- what happened at a begin of which this is said
abbrev pub remark_event : Remark → List ℕ
remark_event NoneLeft = codes "quiet"
remark_event Muted = codes "muted"
remark_event NoIntegrations = codes "quiet"
remark_event (NotAsked position reason edge) = codes "quiet"
remark_event (NothingToSend position) = codes "quiet"

-- the fields of a remark on a begin
unfoldable pub remark_members : Config → TimeFormatData → Preview → Remark → List Member
remark_members config times o remark = event_members config times (remark_event remark) o.time o.group ++ said_members config o remark

-- a character of a line: a control character that JSON allows, from U+007F to U+009F, by its number, as `\u0085`
abbrev pub char_uncontrolled : ℕ → List ℕ
char_uncontrolled c = if nat_le 127 c && nat_lt c 160 then codes "\\u00" ++ hex_text c else encode_utf8 c

-- a text without control characters: each of its characters
unfoldable pub uncontrolled : List ℕ → List ℕ
uncontrolled text = flat_map char_uncontrolled (chars text)

-- the line of an object with these members: its JSON text without blanks, and a line feed
abbrev pub members_line : Members → List ℕ
members_line members = uncontrolled (compact_text (object members)) ++ codes "\n"

-- the line of an object into which these members were put
abbrev pub object_line : List Member → List ℕ
object_line members = members_line (put_all no_members members)

-- the line of a notice whose sending ended, with the reason that the preview has for its integration; nothing where it has none
abbrev pub json_of_sent : PlaybackData → TimeFormatData → SentData → List ℕ
json_of_sent playback times s =
    option_map_or (λ reason. object_line (sent_members playback times s reason))
    (slice_get s.begin.preview.reasons s.notice.integration) []

-- the line on a remark on a begin
abbrev pub json_of_remark : Config → TimeFormatData → Preview → Remark → List ℕ
json_of_remark config times o remark = object_line (remark_members config times o remark)

-- a begin: a line for each remark
abbrev pub json_of_begun : PlaybackData → TimeFormatData → PreviewedBegin → List ℕ
json_of_begun playback times begin = flat_map (json_of_remark playback.config times begin.preview) (remarks playback begin)

-- the lines on an event
abbrev pub json_of_event : PlaybackData → TimeFormatData → Event → List ℕ
json_of_event playback times (Begun begin) = option_map_or (json_of_begun playback times) (slice_get playback.begins begin) []
json_of_event playback times (Sent begin report) =
    option_map_or (json_of_sent playback times) (sent_of playback (Sent begin report)) []

-- JSON: the lines on all events
abbrev pub json_text : PlaybackData → TimeFormatData → List ℕ
json_text playback times = flat_map (json_of_event playback times) playback.events
