-- Filtered: the events of a rehearsal that concern a receiver, a route or some alerts.
use Rattle.std.specs.Prelude.{◌≡◌, ℕ, Bool, true, false, ◌&&◌, ◌||◌, ◌==◌, List, [], ◌∷◌, length, filter, Option, Some, None}
use Rattle.std.specs.Prelude.{is_none, slice_get}
use Rattle.std.specs.List.{flat_map, list_any}
use Rattle.std.specs.Option.{option_map_or}
use Rattle.std.specs.Str.{bytes_eq}
use Rattle.am_alerts.specs.AlertData.{AlertData}
use Rattle.am_alerts.specs.Matcher.{match_all}
use Rattle.am_alerts.specs.declared.matcher.MatcherParts.{MatcherParts}
use Rattle.am_model.specs.declared.config.Config.{Config}
use Rattle.am_model.specs.declared.group.GroupName.{GroupName}
use Rattle.am_model.specs.declared.record.Record.{Record}
use Rattle.am_model.specs.Configured.{route_of}
use Rattle.am_model.specs.look_back.Entry.{alert_in}
use Rattle.am_model.specs.look_back.Presence.{goes_to}
use Rattle.am_terms.specs.declared.event.Event.{Event}
use Rattle.am_terms.specs.declared.event.Event.TheVariants.{Begun, Sent}
use Rattle.am_timeline.specs.declared.filtered.Filter.{Filter}
use Rattle.am_timeline.specs.declared.filtered.Selection.{Selection}
use Rattle.am_timeline.specs.declared.filtered.Selection.TheVariants.{All, Only}
use Rattle.am_timeline.specs.Playback.{PlaybackData}

-- the alert that a call inserts, if it does
abbrev pub insert_of : Option AlertData → List AlertData
insert_of None = []
insert_of (Some a) = a ∷ []

-- the alerts of all inserts of a history
abbrev pub inserted_in : List Record → List AlertData
inserted_in history = flat_map (λ r. insert_of (alert_in r.call)) history

-- whether a filter names nothing
abbrev pub names_nothing : Filter → Bool
names_nothing wanted = is_none wanted.receiver && is_none wanted.route && length wanted.matchers == 0

-- whether a text is this one, if one is named
abbrev pub is_named : Option (List ℕ) → List ℕ → Bool
is_named name text = option_map_or (λ n. bytes_eq text n) name true

-- whether all matchers match an alert, and it goes to this group
abbrev pub brings : Config → List MatcherParts → GroupName → AlertData → Bool
brings config matchers name a = match_all matchers a.labels && goes_to config name a.labels

-- whether an alert that was inserted, and that all matchers match, goes to this group
abbrev pub has_match : Config → List AlertData → List MatcherParts → GroupName → Bool
has_match config alerts matchers name = list_any (brings config matchers name) alerts

-- a test of groups is whether they have such an alert, if there are matchers
abbrev pub FindsMatches : Config → List AlertData → List MatcherParts → (GroupName → Bool) → Type 0
FindsMatches config alerts matchers test =
    length matchers == 0 ≡ false → (name : GroupName) → test name ≡ has_match config alerts matchers name

-- whether a group is of the receiver and the route that a filter names
abbrev pub is_of : Config → Filter → GroupName → Bool
is_of config wanted name =
    is_named wanted.receiver (route_of config name).receiver && is_named wanted.route (route_of config name).name

-- whether a filter wants a group: it is of the receiver and the route, and has an alert that the matchers match, if there are matchers
abbrev pub is_wanted : PlaybackData → Filter → GroupName → Bool
is_wanted playback wanted name =
    is_of playback.config wanted name
    && ((length wanted.matchers == 0) || has_match playback.config (inserted_in playback.history) wanted.matchers name)

-- whether the begin at a position is of a group that is wanted
abbrev pub is_wanted_at : PlaybackData → Filter → ℕ → Bool
is_wanted_at playback wanted position =
    option_map_or (λ begin. is_wanted playback wanted begin.preview.group) (slice_get playback.begins position) true

-- whether an event is of a group that is wanted
abbrev pub concerns : PlaybackData → Filter → Event → Bool
concerns playback wanted (Begun begin) = is_wanted_at playback wanted begin
concerns playback wanted (Sent begin report) = is_wanted_at playback wanted begin

-- those that are left of these events
abbrev pub left_of : Selection → List Event → List Event
left_of All events = events
left_of (Only left) events = left.items

-- filtered: the rehearsal with the events of the groups that are wanted
abbrev pub filtered : PlaybackData → Filter → PlaybackData
filtered playback wanted = record playback { events = filter (concerns playback wanted) playback.events }
