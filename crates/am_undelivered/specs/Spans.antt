-- Spans: the spans of firing of the alerts of a rehearsal, and what its flushes came to for each integration.
use Rattle.std.specs.Prelude.{◌≡◌, ℕ, ◌+◌, Bool, true, false, not, ◌&&◌, ◌||◌, ◌==◌, nat_lt, List, [], ◌∷◌, ◌++◌, drop, filter, find, map}
use Rattle.std.specs.Prelude.{Vec, Option, Some, None, is_some, slice_get, if◌then◌else◌}
use Rattle.std.specs.Global.{Global}
use Rattle.std.specs.HashMap.{HashMap, get}
use Rattle.std.specs.List.{flat_map, list_any}
use Rattle.std.specs.Option.{option_and_then, option_map, option_map_or}
use Rattle.std.specs.Str.{bytes_eq}
use Rattle.am_alerts.specs.AlertData.{AlertData, has_come, is_resolved}
use Rattle.am_alerts.specs.Labels.{same_label_set}
use Rattle.am_alerts.specs.RoutingTree.{route_at, routes_of}
use Rattle.am_alerts.specs.declared.labels.Label.{Label}
use Rattle.am_model.specs.declared.config.Config.{Config}
use Rattle.am_model.specs.declared.config.Integration.{Integration}
use Rattle.am_model.specs.declared.group.GroupName.{GroupName}
use Rattle.am_model.specs.declared.preview.Preview.{Preview}
use Rattle.am_model.specs.declared.reason.Reason.{Reason}
use Rattle.am_model.specs.declared.reason.Reason.TheVariants.{FirstNotice, NewAlert, AllResolved, NewlyResolved, Repeat, NothingLeft}
use Rattle.am_model.specs.declared.reason.Reason.TheVariants.{NothingFiring, NotYet, RouteMuted}
use Rattle.am_model.specs.declared.record.Record.{Record}
use Rattle.am_model.specs.Carry.{index_at, position_of}
use Rattle.am_model.specs.Configured.{integrations_named, route_of}
use Rattle.am_model.specs.look_back.Entry.{alert_in}
use Rattle.am_model.specs.look_back.Presence.{goes_to}
use Rattle.am_model.specs.Notice.{NoticeData}
use Rattle.am_model.specs.Records.{now_of}
use Rattle.am_model.specs.State.{same_name}
use Rattle.am_model.specs.Outcomes.{outcomes_in}
use Rattle.am_model.specs.Ticket.{outcome_of}
use Rattle.am_terms.specs.declared.event.PreviewedBegin.{PreviewedBegin}
use Rattle.am_timeline.specs.Playback.{PlaybackData, is_delivered, notices_at}
use Rattle.am_timeline.specs.Timeline.{labels_of}
use Rattle.am_undelivered.specs.Sets.{is_among}
use Rattle.am_undelivered.specs.declared.fate.Fate.{Fate}
use Rattle.am_undelivered.specs.declared.fate.Fate.TheVariants.{Unflushed, Unlisted, Muted, Failed, Seen}
use Rattle.am_undelivered.specs.declared.recipient.Recipient.{Recipient}
use Rattle.am_undelivered.specs.declared.flush.Sent.{Sent}

-- ---- what flushes came to

-- how much a fate says: a notice that was delivered most
abbrev pub rank : Fate → ℕ
rank Unflushed = 0
rank Unlisted = 1
rank (Muted part begin) = 2
rank Failed = 3
rank Seen = 4

-- what two flushes came to together: the fate that says more, and of equal ones the later
abbrev pub joined : Fate → Fate → Fate
joined earlier later = if nat_lt (rank later) (rank earlier) then earlier else later

-- a flush: the dispatcher and the begin, by their positions, what it was to do, and its notices
pub record FlushData : Type 0 where
  pub part : ℕ
  pub begin : ℕ
  pub config : Config
  pub preview : Preview
  pub sent : List Sent

-- until when the route is muted, as a reason says
abbrev pub mute_end : Reason → Option ℕ
mute_end FirstNotice = None
mute_end NewAlert = None
mute_end AllResolved = None
mute_end NewlyResolved = None
mute_end Repeat = None
mute_end NothingLeft = None
mute_end NothingFiring = None
mute_end (NotYet from) = None
mute_end (RouteMuted until) = Some until

-- until when the route of a begin is muted, if it is, as the first of the reasons says: all say the same
abbrev pub route_muted_until : Preview → Option ℕ
route_muted_until o = option_and_then mute_end (slice_get o.reasons 0)

-- whether a reason is that the log entry lists all that fires, and isn't old
abbrev pub is_not_yet : Reason → Bool
is_not_yet FirstNotice = false
is_not_yet NewAlert = false
is_not_yet AllResolved = false
is_not_yet NewlyResolved = false
is_not_yet Repeat = false
is_not_yet NothingLeft = false
is_not_yet NothingFiring = false
is_not_yet (NotYet from) = true
is_not_yet (RouteMuted until) = false

-- whether a begin leaves a label set out: it or its route is muted
abbrev pub is_left_out : Preview → List Label → Bool
is_left_out o labels = is_some (route_muted_until o) || is_among labels (map (λ m. m.labels) o.muted)

-- the label sets that a notice lists as firing, or as resolved
abbrev pub listed : Bool → Sent → List (List Label)
listed fires s = if fires then s.firing else s.resolved

-- what a notice came to for a label set
abbrev pub fate_by : List Label → Bool → Sent → Fate
fate_by labels fires s = if is_among labels (listed fires s) then (if s.delivered then Seen else Failed) else Unlisted

-- what a flush came to without a notice: an alert that fires is in the log entry, if the reason says so
abbrev pub fate_unsent : Bool → Option Reason → Fate
fate_unsent fires reason = if fires && option_map_or is_not_yet reason false then Seen else Unlisted

-- what a flush came to for the integration at a position and a label set that fires, or is resolved
abbrev pub fate_at : FlushData → List Label → Bool → ℕ → Fate
fate_at f labels fires position =
    if is_left_out f.preview labels then Muted f.part f.begin
    else option_map_or (fate_by labels fires) (find (λ s. s.integration == position) f.sent)
    (fate_unsent fires (slice_get f.preview.reasons position))

-- whether no flush came
abbrev pub is_unflushed : Fate → Bool
is_unflushed Unflushed = true
is_unflushed Unlisted = false
is_unflushed (Muted part begin) = false
is_unflushed Failed = false
is_unflushed Seen = false

-- ---- the integrations that are to be notified

-- an integration that no flush was for yet, with its index among those of its kind
abbrev pub unflushed : List ℕ → ℕ → Integration → Recipient
unflushed receiver index i =
    record { receiver = receiver; kind = i.kind; index = index; resolves = i.send_resolved; page = Unflushed; clear = Unflushed }

-- those of all integrations of a receiver from a position on
abbrev pub recipients_from : List ℕ → List Integration → ℕ → List Integration → List Recipient
recipients_from receiver all position [] = []
recipients_from receiver all position (i ∷ is) =
    unflushed receiver (index_at all position) i ∷ recipients_from receiver all (position + 1) is

-- the integrations of the receiver of this name
abbrev pub recipients_named : Config → List ℕ → List Recipient
recipients_named config receiver =
    recipients_from receiver (integrations_named receiver config.receivers) 0 (integrations_named receiver config.receivers)

-- the integrations of the receivers to which the routes of a label set lead
abbrev pub recipients_of : Config → List Label → List Recipient
recipients_of config labels =
    flat_map (λ position. recipients_named config (route_at config.routes position).receiver) (routes_of config.routes labels)

-- whether two integrations have one receiver and one name
abbrev pub same_recipient : Recipient → Recipient → Bool
same_recipient a b = bytes_eq a.receiver b.receiver && (bytes_eq a.kind b.kind && (a.index == b.index))

-- these integrations, with one at the end unless it is there
abbrev pub with_recipient : List Recipient → Recipient → List Recipient
with_recipient all r = if list_any (same_recipient r) all then all else all ++ r ∷ []

-- these integrations, with each of others that isn't there
abbrev pub with_recipients : List Recipient → List Recipient → List Recipient
with_recipients all [] = all
with_recipients all (r ∷ rs) = with_recipients (with_recipient all r) rs

-- the name of the receiver of a flush's group
abbrev pub receiver_of : FlushData → List ℕ
receiver_of f = (route_of f.config f.preview.group).receiver

-- the position of an integration in the receiver of a flush, if the flush is for it: its position can change with a reload, its name can't
abbrev pub position_for : FlushData → Recipient → Option ℕ
position_for f r =
    if bytes_eq (receiver_of f) r.receiver
    then position_of r.kind r.index 0 (integrations_named (receiver_of f) f.config.receivers)
    else None

-- an integration after a flush that came to this for a label set that fires, or is resolved
abbrev pub notified : Recipient → Bool → Fate → Recipient
notified r true fate = record r { page = joined r.page fate }
notified r false fate = record r { clear = joined r.clear fate }

-- an integration after a flush of a group of a label set
abbrev pub notified_by : FlushData → List Label → Bool → Recipient → Recipient
notified_by f labels fires r = option_map_or (λ position. notified r fires (fate_at f labels fires position)) (position_for f r) r

-- ---- spans of firing

-- a span of firing: since when, until when if an end is known, and the integrations to be notified of it
pub record SpanData : Type 0 where
  pub since : ℕ
  pub ends : Option ℕ
  pub recipients : List Recipient

-- the spans of firing of a label set: the last one, those before, and the dispatcher of its last insert, by its position
pub record SpansData : Type 0 where
  pub before : List SpanData
  pub last : SpanData
  pub part : ℕ

-- the span that begins with an insert
abbrev pub begun_span : Config → AlertData → SpanData
begun_span config a = record { since = a.starts; ends = a.ends; recipients = with_recipients [] (recipients_of config a.labels) }

-- the integrations for which a flush came
abbrev pub with_flush : List Recipient → List Recipient
with_flush recipients = filter (λ r. not (is_unflushed r.page)) recipients

-- a span that fires, after an insert: it has the end of that, and those are to be notified for which a flush came, or to which the
-- routes lead now
abbrev pub inserted_again : Config → AlertData → SpanData → SpanData
inserted_again config a s =
    record { since = s.since; ends = a.ends; recipients = with_recipients (with_flush s.recipients) (recipients_of config a.labels) }

-- the spans after an insert at t: one begins where the alert fires, and the last one is over, if there is one
abbrev pub inserted : ℕ → Config → ℕ → AlertData → Option SpansData → Option SpansData
inserted part config t a None =
    if is_resolved a t then None else Some (record { before = []; last = begun_span config a; part = part })
inserted part config t a (Some s) =
    if not (has_come s.last.ends t) then Some (record { before = s.before; last = inserted_again config a s.last; part = part })
    else (if is_resolved a t then Some (record { before = s.before; last = s.last; part = part })
    else Some (record { before = s.before ++ s.last ∷ []; last = begun_span config a; part = part }))

-- a span after a flush of a group of its label set
abbrev pub flushed_span : FlushData → List Label → SpanData → SpanData
flushed_span f labels s =
    record s { recipients = map (notified_by f labels (not (has_come s.ends f.preview.time))) s.recipients }

-- the spans after it: it concerns the last one, if the label set was inserted under its dispatcher
abbrev pub flushed : FlushData → List Label → SpansData → SpansData
flushed f labels s =
    if s.part == f.part then record { before = s.before; last = flushed_span f labels s.last; part = s.part } else s

-- ---- a rehearsal

-- what happens to alerts: one is inserted under the dispatcher at a position, at a time; or a group is flushed
pub data Fact : Type 0 where
  Inserted : ℕ → Config → ℕ → AlertData → Fact
  Flushed : FlushData → Fact

-- a notice as a flush is seen, by the records behind its begin: what it lists, and whether it was delivered
abbrev pub sent_of : List Record → NoticeData → Sent
sent_of later n =
    record {
      integration = n.integration;
      delivered = option_map_or is_delivered (outcome_of (outcomes_in n.ticket later) n.integration) false;
      firing = map labels_of n.firing;
      resolved = map labels_of n.resolved;
    }

-- a flush of the dispatcher at a position
abbrev pub flush_of : ℕ → PlaybackData → ℕ → PreviewedBegin → FlushData
flush_of part p begin b =
    record {
      part = part;
      begin = begin;
      config = p.config;
      preview = b.preview;
      sent = map (sent_of (drop (b.index + 1) p.history)) (notices_at p.history b.index);
    }

-- the begin at a position, if its record is the one at this index
abbrev pub begin_at : List PreviewedBegin → ℕ → ℕ → Option PreviewedBegin
begin_at begins index begin = option_and_then (λ b. if b.index == index then Some b else None) (slice_get begins begin)

-- the insert of an alert at a time, if there is one
abbrev pub inserts_at : ℕ → Config → ℕ → Option AlertData → List Fact
inserts_at part config t None = []
inserts_at part config t (Some a) = Inserted part config t a ∷ []

-- what a record does that begins a flush, or else that inserts an alert
abbrev pub facts_at : ℕ → PlaybackData → ℕ → Option PreviewedBegin → Record → List Fact
facts_at part p begin (Some b) r = Flushed (flush_of part p begin b) ∷ []
facts_at part p begin None r = inserts_at part p.config (now_of r.call) (alert_in r.call)

-- the position of the next begin behind this one, if there is one
abbrev pub next_begin : ℕ → Option PreviewedBegin → ℕ
next_begin begin None = begin
next_begin begin (Some b) = begin + 1

-- what happens from the record at an index on, where the next begin that took a group has this position
abbrev pub facts_from : ℕ → PlaybackData → ℕ → ℕ → List Record → List Fact
facts_from part p begin index [] = []
facts_from part p begin index (r ∷ rs) =
    facts_at part p begin (begin_at p.begins index begin) r
    ++ facts_from part p (next_begin begin (begin_at p.begins index begin)) (index + 1) rs

-- what happens under one dispatcher
abbrev pub facts_in : ℕ → PlaybackData → List Fact
facts_in part p = facts_from part p 0 0 p.history

-- what happens in a rehearsal: under one dispatcher after another, the first of which has this position
abbrev pub facts_of : ℕ → List PlaybackData → List Fact
facts_of part [] = []
facts_of part (p ∷ ps) = facts_in part p ++ facts_of (part + 1) ps

-- the spans of a label set after something happens: its insert, or a flush of a group to which its routes lead
abbrev pub after_fact : List Label → Fact → Option SpansData → Option SpansData
after_fact labels (Inserted part config t a) spans = if same_label_set a.labels labels then inserted part config t a spans else spans
after_fact labels (Flushed f) spans =
    if goes_to f.config f.preview.group labels then option_map (flushed f labels) spans else spans

-- the spans of a label set after all this
abbrev pub after_facts : List Label → List Fact → Option SpansData → Option SpansData
after_facts labels [] spans = spans
after_facts labels (f ∷ fs) spans = after_facts labels fs (after_fact labels f spans)

-- label sets, with one at the end unless it is there
abbrev pub with_label_set : List Label → List (List Label) → List (List Label)
with_label_set labels sets = if is_among labels sets then sets else sets ++ labels ∷ []

-- the label sets that were inserted, in the order of their first inserts
abbrev pub with_set : Fact → List (List Label) → List (List Label)
with_set (Inserted part config t a) sets = with_label_set a.labels sets
with_set (Flushed f) sets = sets

-- the same after all this
abbrev pub sets_after : List Fact → List (List Label) → List (List Label)
sets_after [] sets = sets
sets_after (f ∷ fs) sets = sets_after fs (with_set f sets)

-- spans: the spans of firing of a label set in a rehearsal
abbrev pub spans_in : List PlaybackData → List Label → Option SpansData
spans_in playbacks labels = after_facts labels (facts_of 0 playbacks) None

-- the label sets that are inserted in a rehearsal
abbrev pub sets_in : List PlaybackData → List (List Label)
sets_in playbacks = sets_after (facts_of 0 playbacks) []

-- the label sets of inserts under the dispatcher at a position, which a flush of a group can concern
pub record MembersData : Type 0 where
  pub part : ℕ
  pub config : Config
  pub sets : List (List Label)

-- the same, with one label set more
abbrev pub with_member : List Label → MembersData → MembersData
with_member labels m = record { part = m.part; config = m.config; sets = with_label_set labels m.sets }

-- the label sets that a table has for a group
abbrev pub held : {S : Type 0} → HashMap GroupName (Vec (List Label) Global) S → GroupName → List (List Label)
held lists name = option_map_or (λ v. v.items) (get same_name lists name) []

-- whether one of these label sets is this one, and a route of it leads to a group
abbrev pub has_member : MembersData → GroupName → List Label → Bool
has_member m name labels = is_among labels m.sets && goes_to m.config name labels

-- whether the last insert of a label set with these spans was under an earlier dispatcher, or is one of these
abbrev pub is_known : MembersData → List Label → SpansData → Bool
is_known m labels s = nat_lt s.part m.part || (s.part == m.part && is_among labels m.sets)

-- so is that of each label set with spans
abbrev pub AreKnown : MembersData → (List Label → Option SpansData) → Type 0
AreKnown m spans = (labels : List Label) → option_map_or (is_known m labels) (spans labels) true ≡ true

-- each label set with spans was last inserted under a dispatcher before the one at this position
abbrev pub AreBefore : ℕ → (List Label → Option SpansData) → Type 0
AreBefore part spans = (labels : List Label) → option_map_or (λ s. nat_lt s.part part) (spans labels) true ≡ true
