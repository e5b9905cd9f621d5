-- Expectation: what is expected of a rehearsal, and whether it is met. A rehearsal is a playback for each dispatcher, in their order.
use Rattle.std.specs.Prelude.{ℕ, ◌+◌, ◌*◌, ◌^◌, Bool, true, false, ◌&&◌, ◌==◌, nat_le, count_by, sum_by, List, [], ◌∷◌, ◌++◌, Option}
use Rattle.std.specs.Prelude.{slice_get}
use Rattle.std.specs.Prelude.{if◌then◌else◌}
use Rattle.std.specs.List.{list_all, list_any}
use Rattle.std.specs.Option.{option_map_or}
use Rattle.std.specs.Str.{bytes_eq}
use Rattle.am_alerts.specs.AlertData.{AlertData}
use Rattle.am_alerts.specs.Labels.{same_label_set}
use Rattle.am_alerts.specs.Matcher.{match_all}
use Rattle.am_alerts.specs.declared.labels.Label.{Label}
use Rattle.am_alerts.specs.declared.matcher.MatcherParts.{MatcherParts}
use Rattle.am_model.specs.declared.config.Config.{Config}
use Rattle.am_model.specs.Config.{kind_at}
use Rattle.am_model.specs.Configured.{integrations_named, route_of}
use Rattle.am_terms.specs.declared.event.Event.{Event}
use Rattle.am_terms.specs.Expectation.{allows, wanted_words}
use Rattle.am_terms.specs.declared.expectation.Expectation.{Expectation}
use Rattle.am_terms.specs.declared.expectation.Content.{Content}
use Rattle.am_terms.specs.declared.expectation.SentReason.{SentReason}
use Rattle.am_timeline.specs.Playback.{PlaybackData, SentData, has_set, is_delivered, sent_of}
use Rattle.am_timeline.specs.Table.{is_for}
use Rattle.am_timeline.specs.Timeline.{expiry_before, sent_words}

-- the kind of the integration that a notice was for
abbrev pub kind_for : Config → SentData → List ℕ
kind_for config s = kind_at (integrations_named (route_of config s.notice.group).receiver config.receivers) s.notice.integration

-- whether a notice was for the receiver of an expectation, if it names one
abbrev pub is_for_receiver : Config → Expectation → SentData → Bool
is_for_receiver config x s = option_map_or (λ name. is_for config name s) x.receiver true

-- whether it was for the integration, if the expectation names its kind or its position
abbrev pub is_for_integration : Config → Expectation → SentData → Bool
is_for_integration config x s =
    option_map_or (λ kind. bytes_eq (kind_for config s) kind) x.kind true
    && option_map_or (λ position. s.notice.integration == position) x.integration true

-- whether a notice is one of those that an expectation speaks of: delivered, from the one time to the other, to its target;
-- one counts also if its sending ended after the deadline of its flush
abbrev pub is_in_scope : Config → Expectation → SentData → Bool
is_in_scope config x s =
    is_delivered s.outcome && nat_le x.from s.report.ended && nat_le s.report.ended x.to && is_for_receiver config x s
    && is_for_integration config x s

-- whether a label set is one of these
abbrev pub is_listed : List (List Label) → AlertData → Bool
is_listed wanted a = list_any (λ labels. same_label_set labels a.labels) wanted

-- whether alerts have just these label sets, in whatever order
abbrev pub have_just : List (List Label) → List AlertData → Bool
have_just wanted alerts = list_all (has_set alerts) wanted && list_all (is_listed wanted) alerts

-- whether alerts have just the label sets that are wanted, if any are said
abbrev pub are_as_wanted : Option (List (List Label)) → List AlertData → Bool
are_as_wanted wanted alerts = option_map_or (λ sets. have_just sets alerts) wanted true

-- whether one of these alerts matches all of these matchers
abbrev pub has_match : List MatcherParts → List AlertData → Bool
has_match matchers alerts = list_any (λ a. match_all matchers a.labels) alerts

-- the same, if matchers are said
abbrev pub has_as_wanted : Option (List MatcherParts) → List AlertData → Bool
has_as_wanted wanted alerts = option_map_or (λ matchers. has_match matchers alerts) wanted true

-- whether a notice was sent for this reason, as its line in the timeline says it
abbrev pub is_sent_for : PlaybackData → SentReason → SentData → Bool
is_sent_for playback reason s =
    option_map_or (λ own. bytes_eq (sent_words (expiry_before playback s) own) (wanted_words reason))
    (slice_get s.begin.preview.reasons s.notice.integration) false

-- the same, if a reason is said
abbrev pub is_sent_as_wanted : PlaybackData → Option SentReason → SentData → Bool
is_sent_as_wanted playback wanted s = option_map_or (λ reason. is_sent_for playback reason s) wanted true

-- whether a notice says what is wanted of it
abbrev pub has_content : PlaybackData → Content → SentData → Bool
has_content playback wanted s =
    has_as_wanted wanted.has s.notice.firing && has_as_wanted wanted.has_resolved s.notice.resolved
    && are_as_wanted wanted.firing s.notice.firing && are_as_wanted wanted.resolved s.notice.resolved
    && is_sent_as_wanted playback wanted.reason s

-- whether a notice is one that an expectation wants: in scope, and of its content
abbrev pub fits : PlaybackData → Expectation → SentData → Bool
fits playback x s = is_in_scope playback.config x s && has_content playback x.content s

-- whether the sending of a notice in scope ended by this
abbrev pub ends_in_scope : PlaybackData → Expectation → Event → Bool
ends_in_scope playback x event = option_map_or (is_in_scope playback.config x) (sent_of playback event) false

-- whether the sending of a notice that fits did
abbrev pub ends_fitting : PlaybackData → Expectation → Event → Bool
ends_fitting playback x event = option_map_or (fits playback x) (sent_of playback event) false

-- whether a playback has a notice in scope
abbrev pub has_in_scope : Expectation → PlaybackData → Bool
has_in_scope x playback = list_any (ends_in_scope playback x) playback.events

-- how many notices of a playback fit
abbrev pub count_in : Expectation → PlaybackData → ℕ
count_in x playback = count_by (ends_fitting playback x) playback.events

-- how many notices of all playbacks fit
abbrev pub count_fitting : List PlaybackData → Expectation → ℕ
count_fitting playbacks x = sum_by (count_in x) playbacks

-- whether counts are no more than so many playbacks can have: each has less than 2^64 events
abbrev pub are_few : ℕ → List ℕ → Bool
are_few playbacks counts = list_all (λ n. nat_le n (playbacks * 2 ^ 64)) counts

-- met: as many notices fit, over all playbacks, as are expected
abbrev pub is_met : List PlaybackData → Expectation → Bool
is_met playbacks x = allows x.amount (count_fitting playbacks x)

-- the number of an expectation, if it isn't met
abbrev pub unmet_at : List PlaybackData → ℕ → Expectation → List ℕ
unmet_at playbacks n x = if is_met playbacks x then [] else n ∷ []

-- the numbers of the expectations that aren't met, counted from n on
abbrev pub unmet_from : List PlaybackData → ℕ → List Expectation → List ℕ
unmet_from playbacks n [] = []
unmet_from playbacks n (x ∷ xs) = unmet_at playbacks n x ++ unmet_from playbacks (n + 1) xs
