-- ExpectationReport: the text on each expectation, by all playbacks of a rehearsal.
use Rattle.std.specs.Prelude.{ℕ, ◌+◌, ◌-◌, Bool, true, false, ◌&&◌, ◌==◌, nat_le, nat_lt, List, [], ◌∷◌, ◌++◌, codes, decimal}
use Rattle.std.specs.Prelude.{Option, Some, None, slice_get, if◌then◌else◌}
use Rattle.std.specs.List.{flat_map, join_by, list_any}
use Rattle.std.specs.Option.{option_and_then, option_map_or, option_or}
use Rattle.std.specs.Str.{bytes_eq}
use Rattle.am_alerts.specs.AlertData.{AlertData}
use Rattle.am_alerts.specs.declared.labels.Label.{Label}
use Rattle.am_alerts.specs.declared.matcher.MatcherParts.{MatcherParts}
use Rattle.am_alerts.specs.declared.matcher.Operator.{Operator}
use Rattle.am_alerts.specs.declared.matcher.Operator.TheVariants.{Equal, NotEqual, Like, NotLike}
use Rattle.am_model.specs.declared.config.Config.{Config}
use Rattle.am_model.specs.declared.config.Integration.{Integration}
use Rattle.am_model.specs.Configured.{integrations_named, route_of}
use Rattle.am_model.specs.Notice.{NoticeData}
use Rattle.am_terms.specs.declared.event.Event.{Event}
use Rattle.am_terms.specs.declared.expectation.Amount.{Amount}
use Rattle.am_terms.specs.declared.expectation.Amount.TheVariants.{AtLeastOne, Exactly, AtMost}
use Rattle.am_terms.specs.declared.expectation.Expectation.{Expectation}
use Rattle.am_terms.specs.declared.expectation.Content.{Content}
use Rattle.am_terms.specs.declared.expectation.SentReason.{SentReason}
use Rattle.am_judge.specs.declared.expectation_report.nearest.Alike.{Alike}
use Rattle.am_judge.specs.declared.expectation_report.nearest.Alike.TheVariants.{ToReceiver, ToTarget, OfContent}
use Rattle.am_judge.specs.declared.edge.Flushes.{Flushes}
use Rattle.am_judge.specs.declared.edge.Side.TheVariants.{Fewer, More}
use Rattle.am_judge.specs.Edge.{depends_on_edge, edge_of}
use Rattle.am_judge.specs.Expectation.{are_as_wanted, count_fitting, fits, has_as_wanted, has_content, has_in_scope, is_for_integration}
use Rattle.am_terms.specs.Expectation.{wanted_words}
use Rattle.am_judge.specs.Expectation.{is_for_receiver, is_in_scope, is_met, is_sent_as_wanted}
use Rattle.am_timeline.specs.IntegrationName.{integration_name, target_name}
use Rattle.am_timeline.specs.Shown.{text_shown, sets_shown}
use Rattle.am_timeline.specs.Playback.{PlaybackData, SentData, is_delivered, sent_of}
use Rattle.am_timeline.specs.Table.{count_text}
use Rattle.am_timeline.specs.Timeline.{alerts_text, expiry_before, sent_words}
use Rattle.am_terms.specs.TimeFormatData.{TimeFormatData, counted_text}

-- a label set is its own
abbrev pub as_it_is : List Label → List Label
as_it_is labels = labels

-- label sets that are wanted; `none` where there are none
abbrev pub listed_text : List (List Label) → List ℕ
listed_text [] = codes "none"
listed_text (first ∷ rest) = sets_shown as_it_is (first ∷ rest)

-- how many notices are wanted
abbrev pub amount_text : Amount → List ℕ
amount_text AtLeastOne = codes "a notice"
amount_text (Exactly count) = count_text count (codes " notice")
amount_text (AtMost most) = if most == 0 then codes "no notice" else codes "at most " ++ count_text most (codes " notice")

abbrev pub operator_shown : Operator → List ℕ
operator_shown Equal = codes "="
operator_shown NotEqual = codes "!="
operator_shown Like = codes "=~"
operator_shown NotLike = codes "!~"

-- a matcher, with its value in quotes
unfoldable pub matcher_shown : MatcherParts → List ℕ
matcher_shown m = m.name ++ operator_shown m.op ++ codes "\"" ++ text_shown m.value ++ codes "\""

-- matchers behind a word, with `, ` between them; nothing where none are said
abbrev pub matchers_text : List ℕ → Option (List MatcherParts) → List ℕ
matchers_text word None = []
matchers_text word (Some matchers) = word ++ join_by matcher_shown (codes ", ") matchers

-- label sets behind a word; nothing where none are said
abbrev pub sets_text : List ℕ → Option (List (List Label)) → List ℕ
sets_text word None = []
sets_text word (Some sets) = word ++ listed_text sets

-- the words of a reason behind another
unfoldable pub reason_part : List ℕ → List ℕ
reason_part words = codes "; reason " ++ words

-- the same; nothing where no reason is said
abbrev pub wanted_reason_text : Option SentReason → List ℕ
wanted_reason_text None = []
wanted_reason_text (Some reason) = reason_part (wanted_words reason)

-- which alerts a notice has to have among others
unfoldable pub has_text : Content → List ℕ
has_text wanted =
    matchers_text (codes "; has ") wanted.has ++ matchers_text (codes "; has resolved ") wanted.has_resolved

-- which alerts it has to have and no others
unfoldable pub exact_text : Content → List ℕ
exact_text wanted = sets_text (codes "; firing ") wanted.firing ++ sets_text (codes "; resolved ") wanted.resolved

-- what a notice has to say
unfoldable pub wanted_text : Content → List ℕ
wanted_text wanted = has_text wanted ++ exact_text wanted ++ wanted_reason_text wanted.reason

-- whether an integration is of this kind, if one is said
abbrev pub is_of_kind : Option (List ℕ) → Integration → Bool
is_of_kind kind i = option_map_or (λ k. bytes_eq i.kind k) kind true

-- whether these integrations have one of the kind at a position
abbrev pub has_at : Option (List ℕ) → ℕ → List Integration → Bool
has_at kind position integrations = option_map_or (is_of_kind kind) (slice_get integrations position) false

-- the integrations of the receiver of this name in the first playback whose configuration has that one there; none where none has
abbrev pub integrations_with : List PlaybackData → List ℕ → Option (List ℕ) → ℕ → List Integration
integrations_with [] name kind position = []
integrations_with (p ∷ ps) name kind position =
    if has_at kind position (integrations_named name p.config.receivers) then integrations_named name p.config.receivers
    else integrations_with ps name kind position

-- a kind, if it is said
abbrev pub kind_text : Option (List ℕ) → List ℕ
kind_text None = []
kind_text (Some kind) = codes " " ++ text_shown kind

-- a position, if it is said
abbrev pub position_text : Option ℕ → List ℕ
position_text None = []
position_text (Some position) = codes " at position " ++ decimal position

-- the name of the integration at a position of these; where none is there, its kind, if that is said, and its position
abbrev pub named_part : Option Integration → List Integration → Option (List ℕ) → ℕ → List ℕ
named_part None integrations kind position = kind_text kind ++ position_text (Some position)
named_part (Some _) integrations kind position = codes " " ++ integration_name integrations position

-- the name of the integration at a position of these, or else its kind, if that is said, and its position
abbrev pub named_text : List Integration → Option (List ℕ) → ℕ → List ℕ
named_text integrations kind position = named_part (slice_get integrations position) integrations kind position

-- which integration of the receiver of this name
abbrev pub which_text : List PlaybackData → List ℕ → Option (List ℕ) → Option ℕ → List ℕ
which_text playbacks name kind None = kind_text kind
which_text playbacks name kind (Some position) = named_text (integrations_with playbacks name kind position) kind position

-- which integration of any receiver; nothing where neither its kind nor its position is said
abbrev pub any_text : Option (List ℕ) → Option ℕ → List ℕ
any_text None None = []
any_text None (Some position) = codes " -> any" ++ position_text (Some position)
any_text (Some kind) position = codes " -> any" ++ kind_text (Some kind) ++ position_text position

-- whom an expectation is about
abbrev pub about_text : List PlaybackData → Option (List ℕ) → Option (List ℕ) → Option ℕ → List ℕ
about_text playbacks None kind position = any_text kind position
about_text playbacks (Some name) kind position = codes " -> " ++ text_shown name ++ which_text playbacks name kind position

-- the span of an expectation
abbrev pub span_text : TimeFormatData → Expectation → List ℕ
span_text times x = times.text x.from ++ codes " to " ++ times.text x.to

-- how many notices are expected, and what they have to say
unfoldable pub notices_wanted : Expectation → List ℕ
notices_wanted x = amount_text x.amount ++ wanted_text x.content

-- what is expected
unfoldable pub expected_line : List PlaybackData → TimeFormatData → Expectation → List ℕ
expected_line playbacks times x =
    codes "  expected  " ++ span_text times x ++ about_text playbacks x.receiver x.kind x.integration ++ codes ": " ++ notices_wanted x
    ++ codes "\n"

-- the word before the resolved alerts, behind those that fire
abbrev pub resolved_word : List AlertData → List ℕ
resolved_word [] = codes "resolved "
resolved_word (a ∷ alerts) = codes "; resolved "

-- the firing and resolved alerts of a notice, as text
unfoldable pub got_alerts_text : NoticeData → List ℕ
got_alerts_text n = alerts_text (codes "firing ") n.firing ++ alerts_text (resolved_word n.firing) n.resolved

-- who got a notice
unfoldable pub getter_text : Config → NoticeData → List ℕ
getter_text config n =
    codes " -> " ++ text_shown (route_of config n.group).receiver ++ codes " " ++ target_name config n.group n.integration

-- by how much a time is before the first of a span, or behind the last; nothing where it is in the span
abbrev pub early_text : ℕ → ℕ → List ℕ
early_text from at = if nat_lt at from then codes "; " ++ counted_text (from - at) ++ codes " early" else []

abbrev pub late_text : ℕ → ℕ → List ℕ
late_text to at = if nat_lt to at then codes "; " ++ counted_text (at - to) ++ codes " late" else []

-- a text, unless something is so
abbrev pub unless : Bool → List ℕ → List ℕ
unless holds text = if holds then [] else text

-- why a notice was sent
abbrev pub sent_reason_text : PlaybackData → SentData → List ℕ
sent_reason_text playback s =
    option_map_or (λ own. reason_part (sent_words (expiry_before playback s) own))
    (slice_get s.begin.preview.reasons s.notice.integration) []

-- how a notice differs in the alerts that it has to have among others
unfoldable pub has_differences : Content → SentData → List ℕ
has_differences wanted s =
    unless (has_as_wanted wanted.has s.notice.firing) (codes "; no firing alert matches")
    ++ unless (has_as_wanted wanted.has_resolved s.notice.resolved) (codes "; no resolved alert matches")

-- how it differs in those that it has to have and no others
unfoldable pub exact_differences : Content → SentData → List ℕ
exact_differences wanted s =
    unless (are_as_wanted wanted.firing s.notice.firing) (codes "; other firing alerts")
    ++ unless (are_as_wanted wanted.resolved s.notice.resolved) (codes "; other resolved alerts")

-- why it was sent, if another reason is wanted
abbrev pub reason_difference : PlaybackData → Content → SentData → List ℕ
reason_difference playback wanted s = unless (is_sent_as_wanted playback wanted.reason s) (sent_reason_text playback s)

-- how a notice differs in its content from what is wanted
unfoldable pub content_differences : PlaybackData → Content → SentData → List ℕ
content_differences playback wanted s =
    has_differences wanted s ++ exact_differences wanted s ++ reason_difference playback wanted s

-- by how much a time is outside of a span
unfoldable pub off_span_text : ℕ → ℕ → ℕ → List ℕ
off_span_text from to at = early_text from at ++ late_text to at

-- that a notice was for another integration, if it was
abbrev pub integration_difference : Config → Expectation → SentData → List ℕ
integration_difference config x s = unless (is_for_integration config x s) (codes "; another integration")

-- how a notice to the receiver of an expectation differs from what is expected
unfoldable pub differences : PlaybackData → Expectation → SentData → List ℕ
differences playback x s =
    off_span_text x.from x.to s.report.ended ++ integration_difference playback.config x s
    ++ content_differences playback x.content s

-- when a notice came and to whom, behind a word
unfoldable pub came_front : List ℕ → Config → TimeFormatData → SentData → List ℕ
came_front word config times s = word ++ times.text s.report.ended ++ getter_text config s.notice

-- a notice behind a word: when it came, to whom, what it reported, and how it differs from what is expected
unfoldable pub came_line : List ℕ → PlaybackData → TimeFormatData → Expectation → SentData → List ℕ
came_line word playback times x s =
    came_front word playback.config times s ++ codes ": " ++ got_alerts_text s.notice ++ differences playback x s ++ codes "\n"

-- whether a notice is shown: one that fits, or one in scope where none fits
abbrev pub is_shown : Bool → PlaybackData → Expectation → SentData → Bool
is_shown some_fit playback x s = if some_fit then fits playback x s else is_in_scope playback.config x s

-- a notice that came, if it is shown
abbrev pub got_if_shown : Bool → PlaybackData → TimeFormatData → Expectation → SentData → List ℕ
got_if_shown some_fit playback times x s =
    if is_shown some_fit playback x s then came_line (codes "  got       ") playback times x s else []

-- the notice that is shown whose sending ended by this, if there is one
abbrev pub got_by : Bool → PlaybackData → TimeFormatData → Expectation → Event → List ℕ
got_by some_fit playback times x event = option_map_or (got_if_shown some_fit playback times x) (sent_of playback event) []

-- the notices of a playback that are shown
abbrev pub got_in : Bool → TimeFormatData → Expectation → PlaybackData → List ℕ
got_in some_fit times x playback = flat_map (got_by some_fit playback times x) playback.events

-- those of all playbacks
abbrev pub all_got : Bool → List PlaybackData → TimeFormatData → Expectation → List ℕ
all_got some_fit playbacks times x = flat_map (got_in some_fit times x) playbacks

-- a notice, and the playback that it was sent in
pub record FoundData : Type 0 where
  pub playback : PlaybackData
  pub sent : SentData

-- how far a notice is from the span of an expectation: how long before its first time, or behind its last
abbrev pub distance : Expectation → SentData → ℕ
distance x s = if nat_lt s.report.ended x.from then x.from - s.report.ended else s.report.ended - x.to

-- whether a notice has so much of what is expected
abbrev pub is_alike : Alike → PlaybackData → Expectation → SentData → Bool
is_alike ToReceiver playback x s = is_for_receiver playback.config x s
is_alike ToTarget playback x s = is_for_receiver playback.config x s && is_for_integration playback.config x s
is_alike OfContent playback x s =
    is_for_receiver playback.config x s && is_for_integration playback.config x s && has_content playback x.content s

-- a notice, if it was delivered and is alike
abbrev pub if_alike : Alike → PlaybackData → Expectation → SentData → Option FoundData
if_alike alike playback x s =
    if is_delivered s.outcome && is_alike alike playback x s then Some (record { playback = playback; sent = s }) else None

-- the notice that is alike whose sending ended by this, if there is one
abbrev pub candidate_by : Alike → PlaybackData → Expectation → Event → Option FoundData
candidate_by alike playback x event = option_and_then (if_alike alike playback x) (sent_of playback event)

-- the nearer of two notices, and the first where both are as near
abbrev pub nearer : Expectation → Option FoundData → Option FoundData → Option FoundData
nearer x None b = b
nearer x (Some a) None = Some a
nearer x (Some a) (Some b) = if nat_le (distance x a.sent) (distance x b.sent) then Some a else Some b

-- the nearest of a notice and those alike whose sending ended by these
abbrev pub nearest_with : Alike → PlaybackData → Expectation → Option FoundData → List Event → Option FoundData
nearest_with alike playback x nearest [] = nearest
nearest_with alike playback x nearest (event ∷ events) =
    nearest_with alike playback x (nearer x nearest (candidate_by alike playback x event)) events

-- the nearest of a notice and those alike of these playbacks
abbrev pub nearest_in : Alike → Expectation → Option FoundData → List PlaybackData → Option FoundData
nearest_in alike x nearest [] = nearest
nearest_in alike x nearest (p ∷ ps) = nearest_in alike x (nearest_with alike p x nearest p.events) ps

-- the nearest notice: of those with the target and the content that are expected, or else with the target, or else to the receiver
abbrev pub nearest_of : List PlaybackData → Expectation → Option FoundData
nearest_of playbacks x =
    option_or (nearest_in OfContent x None playbacks)
    (option_or (nearest_in ToTarget x None playbacks) (nearest_in ToReceiver x None playbacks))

-- the nearest notice, and how it differs; nothing where none was delivered to the receiver
unfoldable pub nearest_text : List PlaybackData → TimeFormatData → Expectation → List ℕ
nearest_text playbacks times x =
    option_map_or (λ found. came_line (codes "  nearest   ") found.playback times x found.sent) (nearest_of playbacks x) []

-- that none came in scope, and the nearest
unfoldable pub none_text : List PlaybackData → TimeFormatData → Expectation → List ℕ
none_text playbacks times x = codes "  got       none\n" ++ nearest_text playbacks times x

-- the notices that came, where none fits: those in scope, or else the nearest
abbrev pub unfitting_text : List PlaybackData → TimeFormatData → Expectation → List ℕ
unfitting_text playbacks times x =
    if list_any (has_in_scope x) playbacks then all_got false playbacks times x else none_text playbacks times x

-- the notices that came: those that fit, or else the others
abbrev pub got_text : List PlaybackData → TimeFormatData → Expectation → List ℕ
got_text playbacks times x =
    if count_fitting playbacks x == 0 then unfitting_text playbacks times x else all_got true playbacks times x

-- the two flushes of a repeat on the edge
unfoldable pub flushes_text : TimeFormatData → Flushes → List ℕ
flushes_text times f = codes "  edge      repeat at " ++ times.text f.first ++ codes " or " ++ times.text f.next

-- a repeat on the edge: its flushes and its target
unfoldable pub edge_line : Config → TimeFormatData → SentData → Flushes → List ℕ
edge_line config times s f = flushes_text times f ++ getter_text config s.notice ++ codes ": the answer depends on it\n"

-- the same, if there is one
abbrev pub edge_text : Config → TimeFormatData → SentData → Option Flushes → List ℕ
edge_text config times s None = []
edge_text config times s (Some f) = edge_line config times s f

-- the repeats that a notice is and that follows it, if they count otherwise at the first of their flushes
abbrev pub edges_of : List PlaybackData → TimeFormatData → Expectation → PlaybackData → SentData → List ℕ
edges_of playbacks times x playback s =
    edge_text playback.config times s (edge_of Fewer playbacks x playback s)
    ++ edge_text playback.config times s (edge_of More playbacks x playback s)

-- those of the notice whose sending ended by this
abbrev pub edges_by : List PlaybackData → TimeFormatData → Expectation → PlaybackData → Event → List ℕ
edges_by playbacks times x playback event = option_map_or (edges_of playbacks times x playback) (sent_of playback event) []

-- those of a playback
abbrev pub edges_in : List PlaybackData → TimeFormatData → Expectation → PlaybackData → List ℕ
edges_in playbacks times x playback = flat_map (edges_by playbacks times x playback) playback.events

-- those of all playbacks
abbrev pub all_edges : List PlaybackData → TimeFormatData → Expectation → List ℕ
all_edges playbacks times x = flat_map (edges_in playbacks times x) playbacks

-- the repeats on the edge on which the answer depends; nothing where it doesn't
abbrev pub edges_text : List PlaybackData → TimeFormatData → Expectation → List ℕ
edges_text playbacks times x = if depends_on_edge playbacks x then all_edges playbacks times x else []

-- what was expected, and what came
unfoldable pub came_text : List PlaybackData → TimeFormatData → Expectation → List ℕ
came_text playbacks times x = expected_line playbacks times x ++ got_text playbacks times x

-- the same, and the repeats on the edge
abbrev pub answer_text : List PlaybackData → TimeFormatData → Expectation → List ℕ
answer_text playbacks times x = came_text playbacks times x ++ edges_text playbacks times x

-- the answer to an expectation that is met, or not
abbrev pub verdict_text : List PlaybackData → TimeFormatData → Expectation → List ℕ
verdict_text playbacks times x =
    if is_met playbacks x then codes ": met\n" ++ edges_text playbacks times x else codes ": not met\n" ++ answer_text playbacks times x

-- the name of an expectation, in quotes
abbrev pub name_text : Option (List ℕ) → List ℕ
name_text None = []
name_text (Some name) = codes " \"" ++ text_shown name ++ codes "\""

-- an expectation by its number, and the answer
unfoldable pub judged_text : List PlaybackData → TimeFormatData → ℕ → Expectation → List ℕ
judged_text playbacks times number x = codes "expect " ++ decimal number ++ name_text x.name ++ verdict_text playbacks times x

-- judgement: expectations, numbered from n on
abbrev pub expectations_text : List PlaybackData → TimeFormatData → ℕ → List Expectation → List ℕ
expectations_text playbacks times n [] = []
expectations_text playbacks times n (x ∷ xs) = judged_text playbacks times n x ++ expectations_text playbacks times (n + 1) xs
