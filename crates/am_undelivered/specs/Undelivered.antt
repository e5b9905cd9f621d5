-- Undelivered: the spans of firing that an integration wasn't notified of, or of whose end, and why.
use Rattle.std.specs.Prelude.{ℕ, Bool, true, false, not, ◌&&◌, ◌||◌, ◌==◌, List, [], ◌∷◌, ◌++◌, codes, find, is_some, length}
use Rattle.std.specs.Prelude.{Option, Some, None, slice_get, if◌then◌else◌}
use Rattle.std.specs.List.{flat_map, list_all}
use Rattle.std.specs.Option.{option_and_then, option_map, option_map_or}
use Rattle.am_alerts.specs.Labels.{same_label_set}
use Rattle.am_alerts.specs.declared.labels.Label.{Label}
use Rattle.am_model.specs.declared.preview.MutedAlert.{MutedAlert}
use Rattle.am_model.specs.declared.preview.Preview.{Preview}
use Rattle.am_terms.specs.TimeFormatData.{TimeFormatData}
use Rattle.am_timeline.specs.IntegrationName.{name_text}
use Rattle.am_timeline.specs.Playback.{PlaybackData}
use Rattle.am_timeline.specs.Shown.{set_shown, text_shown}
use Rattle.am_timeline.specs.Timeline.{cause_text}
use Rattle.am_undelivered.specs.Spans.{SpanData, SpansData, is_unflushed, route_muted_until, sets_in, spans_in}
use Rattle.am_undelivered.specs.declared.fate.Fate.{Fate}
use Rattle.am_undelivered.specs.declared.fate.Fate.TheVariants.{Unflushed, Unlisted, Muted, Failed, Seen}
use Rattle.am_undelivered.specs.declared.missed.Missed.{Missed}
use Rattle.am_undelivered.specs.declared.missed.Missed.TheVariants.{Page, Clear}
use Rattle.am_undelivered.specs.declared.recipient.Recipient.{Recipient}

-- whether an integration was notified
abbrev pub is_seen : Fate → Bool
is_seen Unflushed = false
is_seen Unlisted = false
is_seen (Muted part begin) = false
is_seen Failed = false
is_seen Seen = true

-- ---- what an integration missed

-- what an integration missed of a span: that the alert fires; or, where it was notified of that and is notified of ends, the end. An end
-- that no flush followed before the alert fired again isn't missed
abbrev pub missed_of : Bool → SpanData → Recipient → Option Missed
missed_of is_last s r =
    if not (is_seen r.page) then Some (Page r.page)
    else (if r.resolves && (is_some s.ends && (not (is_seen r.clear) && (is_last || not (is_unflushed r.clear))))
    then Some (Clear r.clear) else None)

-- whether a fate is that the begin at this position of the dispatcher at this position left an alert out
abbrev pub is_muted_at : ℕ → ℕ → Fate → Bool
is_muted_at part begin Unflushed = false
is_muted_at part begin Unlisted = false
is_muted_at part begin (Muted p b) = (p == part) && (b == begin)
is_muted_at part begin Failed = false
is_muted_at part begin Seen = false

-- whether two fates are the same
abbrev pub same_fate : Fate → Fate → Bool
same_fate Unflushed b = is_unflushed b
same_fate Unlisted Unflushed = false
same_fate Unlisted Unlisted = true
same_fate Unlisted (Muted part begin) = false
same_fate Unlisted Failed = false
same_fate Unlisted Seen = false
same_fate (Muted part begin) b = is_muted_at part begin b
same_fate Failed Unflushed = false
same_fate Failed Unlisted = false
same_fate Failed (Muted part begin) = false
same_fate Failed Failed = true
same_fate Failed Seen = false
same_fate Seen b = is_seen b

-- whether an integration missed the same
abbrev pub same_missed : Missed → Option Missed → Bool
same_missed m None = false
same_missed (Page a) (Some (Page b)) = same_fate a b
same_missed (Page a) (Some (Clear b)) = false
same_missed (Clear a) (Some (Page b)) = false
same_missed (Clear a) (Some (Clear b)) = same_fate a b

-- ---- lines

-- since when an alert fires, or from when to when it fired
abbrev pub fired_text : TimeFormatData → ℕ → Option ℕ → List ℕ
fired_text times since None = codes "fires since " ++ times.text since
fired_text times since (Some end) = codes "fired " ++ times.text since ++ codes " to " ++ times.text end

-- the begin at a position of the dispatcher at a position
abbrev pub preview_at : List PlaybackData → ℕ → ℕ → Option Preview
preview_at playbacks part begin =
    option_and_then (λ p. option_map (λ b. b.preview) (slice_get p.begins begin)) (slice_get playbacks part)

-- why a begin left a label set out, as it is found among the muted alerts
abbrev pub muted_text : TimeFormatData → List Label → List MutedAlert → List ℕ
muted_text times labels muted = option_map_or (λ m. cause_text times m.cause) (find (λ m. same_label_set m.labels labels) muted) []

-- the same, where its route is muted until this time, if it is
abbrev pub left_out_text : TimeFormatData → List Label → List MutedAlert → Option ℕ → List ℕ
left_out_text times labels muted None = muted_text times labels muted
left_out_text times labels muted (Some until) = codes " route muted until " ++ times.text until

-- why a begin left a label set out, if it is there
abbrev pub cause_at : TimeFormatData → List Label → Option Preview → List ℕ
cause_at times labels None = []
cause_at times labels (Some o) = left_out_text times labels o.muted (route_muted_until o)

-- that no flush came while the alert fires, where it is over or not; or after its end
abbrev pub unflushed_text : Bool → Bool → List ℕ
unflushed_text true true = codes "resolved before a flush of its group"
unflushed_text true false = codes "no flush of its group since"
unflushed_text false over = codes "no flush had it since"

-- that flushes left an alert out: each of them while it fires, and the one after which it leaves its group once it is resolved
abbrev pub left_out_front : Bool → List ℕ
left_out_front true = codes "muted at each flush:"
left_out_front false = codes "muted at a flush:"

-- why an integration wasn't notified that an alert fires, or of its end: what the flushes came to, of which the first may come too late
-- where the alert is over
abbrev pub fate_text : List PlaybackData → TimeFormatData → List Label → Bool → Bool → Fate → List ℕ
fate_text playbacks times labels fires over Unflushed = unflushed_text fires over
fate_text playbacks times labels fires over Unlisted = codes "a flush sent nothing of it"
fate_text playbacks times labels fires over (Muted part begin) =
    left_out_front fires ++ cause_at times labels (preview_at playbacks part begin)
fate_text playbacks times labels fires over Failed = codes "every notice failed"
fate_text playbacks times labels fires over Seen = []

-- what was missed of a span that is over or not, and why
abbrev pub missed_text : List PlaybackData → TimeFormatData → List Label → Bool → Missed → List ℕ
missed_text playbacks times labels over (Page fate) = fate_text playbacks times labels true over fate
missed_text playbacks times labels over (Clear fate) = codes "resolved unseen: " ++ fate_text playbacks times labels false over fate

-- an integration: its receiver and its name
abbrev pub recipient_text : Recipient → List ℕ
recipient_text r = codes " -> " ++ text_shown r.receiver ++ codes " " ++ name_text r.kind r.index

-- the same, if one is named
abbrev pub whom_text : Option Recipient → List ℕ
whom_text None = []
whom_text (Some r) = recipient_text r

-- the label set, and for whom
abbrev pub subject_text : List Label → List ℕ → List ℕ
subject_text labels whom = codes "undelivered " ++ set_shown labels ++ whom

-- when a span fired
abbrev pub when_text : TimeFormatData → SpanData → List ℕ
when_text times s = codes ": " ++ fired_text times s.since s.ends ++ codes "; "

-- the front of a line: the label set, for whom, and when it fired
abbrev pub span_front : TimeFormatData → List Label → SpanData → List ℕ → List ℕ
span_front times labels s whom = subject_text labels whom ++ when_text times s

-- a line on a span: for whom, and what these missed
unfoldable pub missed_line : List PlaybackData → TimeFormatData → List Label → SpanData → List ℕ → Missed → List ℕ
missed_line playbacks times labels s whom m =
    span_front times labels s whom ++ missed_text playbacks times labels (is_some s.ends) m ++ codes "\n"

-- a line on a span, of whose label set no receiver has integrations
unfoldable pub no_integrations_line : TimeFormatData → List Label → SpanData → List ℕ
no_integrations_line times labels s = span_front times labels s [] ++ codes "no integrations\n"

-- the line on an integration, if it missed something
abbrev pub recipient_line : List PlaybackData → TimeFormatData → List Label → Bool → SpanData → Recipient → List ℕ
recipient_line playbacks times labels is_last s r =
    option_map_or (missed_line playbacks times labels s (whom_text (Some r))) (missed_of is_last s r) []

-- one line for all integrations, which missed the same, or else one for each that missed something; the first of all missed this, if it
-- missed something
abbrev pub lines_by : List PlaybackData → TimeFormatData → List Label → Bool → SpanData → Option Missed → List ℕ
lines_by playbacks times labels is_last s None = flat_map (recipient_line playbacks times labels is_last s) s.recipients
lines_by playbacks times labels is_last s (Some m) =
    if list_all (λ r. same_missed m (missed_of is_last s r)) s.recipients then missed_line playbacks times labels s [] m
    else flat_map (recipient_line playbacks times labels is_last s) s.recipients

-- the lines on a span: none where each integration was notified of all
abbrev pub span_lines : List PlaybackData → TimeFormatData → List Label → Bool → SpanData → List ℕ
span_lines playbacks times labels is_last s =
    if length s.recipients == 0 then no_integrations_line times labels s
    else lines_by playbacks times labels is_last s (option_and_then (missed_of is_last s) (slice_get s.recipients 0))

-- the lines on the spans of a label set
abbrev pub spans_lines : List PlaybackData → TimeFormatData → List Label → SpansData → List ℕ
spans_lines playbacks times labels s =
    flat_map (span_lines playbacks times labels false) s.before ++ span_lines playbacks times labels true s.last

-- the lines on a label set, if it fired
abbrev pub set_lines : List PlaybackData → TimeFormatData → List Label → List ℕ
set_lines playbacks times labels = option_map_or (spans_lines playbacks times labels) (spans_in playbacks labels) []

-- lines behind an empty line, if there are any
abbrev pub behind_empty_line : List ℕ → List ℕ
behind_empty_line [] = []
behind_empty_line (c ∷ lines) = codes "\n" ++ c ∷ lines

-- undelivered: the spans of firing of which an integration that should have been notified wasn't, or not of the end, by label sets in the
-- order of their first inserts, behind an empty line
abbrev pub undelivered_text : List PlaybackData → TimeFormatData → List ℕ
undelivered_text playbacks times = behind_empty_line (flat_map (set_lines playbacks times) (sets_in playbacks))
