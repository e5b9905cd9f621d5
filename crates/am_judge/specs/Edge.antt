-- Edge: expectations whose answer depends on repeats on the edge. Alertmanager sends each at the flush at which its entry is exactly as
-- old as `repeat_interval`, or at the next one. A rehearsal sends it at the next one. Each repeat is looked at by itself, and not which
-- later ones move with it.
use Rattle.std.specs.Prelude.{ℕ, ◌+◌, ◌-◌, Bool, true, false, not, ◌&&◌, ◌==◌, min, nat_le, nat_lt, count_by, sum_by, List, [], codes}
use Rattle.std.specs.Prelude.{Option, Some, None, slice_get, if◌then◌else◌}
use Rattle.std.specs.List.{list_any}
use Rattle.std.specs.Option.{option_map_or}
use Rattle.std.specs.Str.{bytes_eq}
use Rattle.am_alerts.specs.declared.limits.TheConstants.{MAX_TIME}
use Rattle.am_model.specs.declared.config.Config.{Config}
use Rattle.am_model.specs.declared.group.GroupName.{GroupName}
use Rattle.am_model.specs.Configured.{route_of}
use Rattle.am_model.specs.Notice.{NoticeData}
use Rattle.am_model.specs.State.{same_name}
use Rattle.am_terms.specs.declared.event.Event.{Event}
use Rattle.am_terms.specs.declared.event.PreviewedBegin.{PreviewedBegin}
use Rattle.am_terms.specs.declared.expectation.Amount.{Amount}
use Rattle.am_terms.specs.declared.expectation.Amount.TheVariants.{AtLeastOne, Exactly, AtMost}
use Rattle.am_terms.specs.declared.expectation.Content.{Content}
use Rattle.am_terms.specs.declared.expectation.Expectation.{Expectation}
use Rattle.am_terms.specs.declared.expectation.SentReason.{SentReason}
use Rattle.am_terms.specs.declared.expectation.SentReason.TheVariants.{Repeat}
use Rattle.am_terms.specs.Expectation.{wanted_words}
use Rattle.am_judge.specs.declared.edge.Flushes.{Flushes}
use Rattle.am_judge.specs.declared.edge.Side.{Side}
use Rattle.am_judge.specs.declared.edge.Side.TheVariants.{Fewer, More}
use Rattle.am_judge.specs.Expectation.{are_as_wanted, count_fitting, fits, has_as_wanted, is_for_integration, is_for_receiver, is_sent_for}
use Rattle.am_timeline.specs.Playback.{PlaybackData, SentData, is_delivered, sent_of}
use Rattle.am_timeline.specs.Timeline.{is_on_edge}

-- whether a time is in the span of an expectation
abbrev pub is_in_span : Expectation → ℕ → Bool
is_in_span x t = nat_le x.from t && nat_le t x.to

-- whether a begin is of this group, at t, and on the edge for an integration
abbrev pub is_edge_at : GroupName → ℕ → ℕ → PreviewedBegin → Bool
is_edge_at group integration t begin =
    (begin.preview.time == t) && same_name begin.preview.group group
    && option_map_or (is_on_edge t) (slice_get begin.preview.reasons integration) false

-- whether a playback has such a begin, for the group and the integration of a notice
abbrev pub has_edge_at : NoticeData → ℕ → PlaybackData → Bool
has_edge_at n t playback = list_any (is_edge_at n.group n.integration t) playback.begins

-- a flush, and the next one of its group
abbrev pub flushes_from : ℕ → ℕ → Flushes
flushes_from interval first = record { first = first; next = min (first + interval) MAX_TIME }

-- when the entry of a notice is exactly as old as `repeat_interval`
abbrev pub edge_after : Config → SentData → ℕ
edge_after config s = min (s.report.ended + (route_of config s.notice.group).repeat_interval) MAX_TIME

-- the two flushes of the repeat that a notice is, where fewer notices may fit, or that follows it, where more may
abbrev pub flushes_of : Side → Config → SentData → Flushes
flushes_of Fewer config s =
    record { first = s.begin.preview.time - (route_of config s.notice.group).group_interval; next = s.begin.preview.time }
flushes_of More config s = flushes_from (route_of config s.notice.group).group_interval (edge_after config s)

-- whether a repeat is outside of the span at the first of its flushes, where fewer notices may fit, or is in it, where more may
abbrev pub leaves_or_enters : Side → Expectation → ℕ → Bool
leaves_or_enters Fewer x first = not (is_in_span x first)
leaves_or_enters More x first = is_in_span x first

-- whether the reason `repeat` is wanted, if one is said
abbrev pub is_repeat_wanted : Option SentReason → Bool
is_repeat_wanted wanted = option_map_or (λ reason. bytes_eq (wanted_words reason) (codes "repeat")) wanted true

-- whether the repeat of a notice has what is wanted: the firing alerts of that notice, none that is resolved, and the reason `repeat`
abbrev pub repeats_as_wanted : Content → NoticeData → Bool
repeats_as_wanted wanted n =
    is_repeat_wanted wanted.reason && are_as_wanted wanted.resolved [] && has_as_wanted wanted.has_resolved []
    && are_as_wanted wanted.firing n.firing && has_as_wanted wanted.has n.firing

-- whether a notice is a repeat that fits, or its repeat would
abbrev pub is_wanted : Side → PlaybackData → Expectation → SentData → Bool
is_wanted Fewer playback x s = is_sent_for playback Repeat s && fits playback x s
is_wanted More playback x s =
    is_delivered s.outcome && is_for_receiver playback.config x s && is_for_integration playback.config x s
    && repeats_as_wanted x.content s.notice

-- whether a notice is a repeat that fits, from a begin at t, for the group and the integration of another
abbrev pub is_repeat_at : Expectation → NoticeData → ℕ → PlaybackData → SentData → Bool
is_repeat_at x n t playback s =
    (s.begin.preview.time == t) && same_name s.notice.group n.group && (s.notice.integration == n.integration)
    && is_wanted Fewer playback x s

-- whether the sending of such a notice ended by this
abbrev pub ends_repeat_at : Expectation → NoticeData → ℕ → PlaybackData → Event → Bool
ends_repeat_at x n t playback event = option_map_or (is_repeat_at x n t playback) (sent_of playback event) false

-- whether a playback has such a notice
abbrev pub has_repeat_at : Expectation → NoticeData → ℕ → PlaybackData → Bool
has_repeat_at x n t playback = list_any (ends_repeat_at x n t playback) playback.events

-- whether no repeat that fits came at the second flush, where more notices may fit: one that came counts already
abbrev pub is_uncounted : Side → List PlaybackData → Expectation → NoticeData → ℕ → Bool
is_uncounted Fewer playbacks x n next = true
is_uncounted More playbacks x n next = not (list_any (has_repeat_at x n next) playbacks)

-- whether a notice that fits is a repeat that wouldn't at its first flush, or a repeat would fit there that doesn't come at the second one;
-- and the first one is an edge
abbrev pub shifts : Side → List PlaybackData → Expectation → PlaybackData → SentData → Bool
shifts side playbacks x playback s =
    leaves_or_enters side x (flushes_of side playback.config s).first && is_wanted side playback x s
    && list_any (has_edge_at s.notice (flushes_of side playback.config s).first) playbacks
    && is_uncounted side playbacks x s.notice (flushes_of side playback.config s).next

-- the flushes of the repeat of a notice, if the notice does
abbrev pub edge_of : Side → List PlaybackData → Expectation → PlaybackData → SentData → Option Flushes
edge_of side playbacks x playback s =
    if shifts side playbacks x playback s then Some (flushes_of side playback.config s) else None

-- whether the notice does whose sending ended by this
abbrev pub shifts_by : Side → List PlaybackData → Expectation → PlaybackData → Event → Bool
shifts_by side playbacks x playback event = option_map_or (shifts side playbacks x playback) (sent_of playback event) false

-- how many of a playback do
abbrev pub shifts_in : Side → List PlaybackData → Expectation → PlaybackData → ℕ
shifts_in side playbacks x playback = count_by (shifts_by side playbacks x playback) playback.events

-- how many of all playbacks do
abbrev pub count_shifts : Side → List PlaybackData → Expectation → ℕ
count_shifts side playbacks x = sum_by (shifts_in side playbacks x) playbacks

-- whether a count from the fewest to the most is as many as are expected
abbrev pub allows_some : Amount → ℕ → ℕ → Bool
allows_some AtLeastOne fewest most = nat_lt 0 most
allows_some (Exactly count) fewest most = nat_le fewest count && nat_le count most
allows_some (AtMost count) fewest most = nat_le fewest count

-- whether each of them is
abbrev pub allows_each : Amount → ℕ → ℕ → Bool
allows_each AtLeastOne fewest most = nat_lt 0 fewest
allows_each (Exactly count) fewest most = (fewest == count) && (most == count)
allows_each (AtMost count) fewest most = nat_le most count

-- whether some of the counts from the fewest to the most are as many as are expected, and others aren't
abbrev pub is_open : Amount → ℕ → ℕ → Bool
is_open amount fewest most = allows_some amount fewest most && not (allows_each amount fewest most)

-- whether it depends on the flushes at which Alertmanager sends the repeats on the edge if an expectation is met
abbrev pub depends_on_edge : List PlaybackData → Expectation → Bool
depends_on_edge playbacks x =
    is_open x.amount (count_fitting playbacks x - count_shifts Fewer playbacks x)
    (count_fitting playbacks x + count_shifts More playbacks x)
