-- SpansInTime: where a receiver answers, no span of firing is missed for long: a flush comes by the latest time, at which the alert is
-- muted or the span is over.
use Rattle.std.specs.Prelude.{◌≡◌, ℕ, ◌<◌, ◌≤◌, max, Bool, true, ◌⊎◌, All, List, [], ◌∷◌, ◌++◌, length, map, slice_get, Some, None}
use Rattle.std.specs.Option.{IsSomeAnd}
use Rattle.am_alerts.specs.AlertData.{has_come}
use Rattle.am_alerts.specs.declared.labels.Label.{Label}
use Rattle.am_model.specs.declared.group.GroupName.{GroupName}
use Rattle.am_model.specs.declared.record.Record.{Record}
use Rattle.am_model.specs.Carry.{index_at}
use Rattle.am_model.specs.Configured.{integrations_named, integrations_of, route_of}
use Rattle.am_model.specs.look_back.Laws.{begun_at}
use Rattle.am_model.specs.look_back.Past.{Past, past_of, takes, time_at}
use Rattle.am_model.specs.look_back.Presence.{goes_to, inserts}
use Rattle.am_missed.specs.Causes.{TakenData, facts_before, is_muted_at, spans_listed, time_of}
use Rattle.am_paging.specs.InTime.{latest}
use Rattle.am_plays.specs.PlaysInTime.{IsServed}
use Rattle.am_simulation.specs.Parts.{PartData}
use Rattle.am_simulation.specs.Playing.{setting_of_part}
use Rattle.am_simulation.specs.declared.playing.PlayedPart.{PlayedPart}
use Rattle.am_terms.specs.declared.dispatcher_change.DispatcherChange.{DispatcherChange}
use Rattle.am_terms.specs.declared.rehearsal.Rehearsal.{Rehearsal}
use Rattle.am_timeline.specs.Playback.{PlaybackData}
use Rattle.am_undelivered.specs.Spans.{Fact, SpanData, SpansData, after_facts, facts_from, facts_of, spans_in}
use Rattle.am_undelivered.specs.Undelivered.{missed_of}
use Rattle.am_undelivered.specs.declared.fate.Fate.{Fate}
use Rattle.am_undelivered.specs.declared.missed.Missed.TheVariants.{Page}
use Rattle.am_undelivered.specs.declared.recipient.Recipient.{Recipient}
use Rattle.am_missed_in_plays.specs.Rehearsals.{ArePlayedIn, parts_with, playback_of}

-- a record of a rehearsal that inserts an alert, with the dispatchers and the records before and after it, the part of its dispatcher,
-- and a group
pub record InsertData : Type 0 where
  pub before : List PlaybackData
  pub playback : PlaybackData
  pub after : List PlaybackData
  pub part : PartData
  pub earlier : List Record
  pub insert : Record
  pub later : List Record
  pub name : GroupName

-- the records up to it, the latest first
abbrev pub past_with : InsertData → Past
past_with i = i.insert ∷ past_of i.earlier

-- what happened up to it
abbrev pub facts_with : InsertData → List Fact
facts_with i = facts_of 0 i.before ++ facts_from (length i.before) i.playback 0 0 (i.earlier ++ i.insert ∷ [])

-- it is one of a rehearsal with these parts and these playbacks, and inserts this label set; after it the last span of firing is at this
-- position; and a route leads the label set to the group
pub record IsInsertIn (parts : List PartData) (playbacks : List PlaybackData) (labels : List Label) (position : ℕ) (i : InsertData)
    : Type 0 where
  pub dispatchers : playbacks ≡ i.before ++ i.playback ∷ i.after
  pub part : slice_get parts (length i.before) ≡ Some i.part
  pub records : i.playback.history ≡ i.earlier ++ i.insert ∷ i.later
  pub inserts : inserts labels i.insert.call ≡ true
  pub spans : IsSomeAnd (after_facts labels (facts_with i) None) (λ s. length s.before ≡ position)
  pub leads : goes_to i.playback.config i.name labels ≡ true

-- by when the group is begun: a wait after the insert, or an interval after its last begin, and not before the insert
abbrev pub latest_after : InsertData → ℕ
latest_after i =
    max (time_at (past_with i))
    (latest i.playback.config i.name 0 (time_at (past_with i)) (begun_at i.playback.config i.name (past_of i.earlier)))

-- a record that takes the group, with these between the insert and it
abbrev pub taking_after : InsertData → List Record → Record → List Record → TakenData
taking_after i between taking later =
    record {
      before = i.before;
      playback = i.playback;
      after = i.after;
      earlier = i.earlier ++ i.insert ∷ between;
      taking = taking;
      later = later;
      name = i.name;
    }

-- before a record that takes a group the span at a position is over, by its end or since another has begun
abbrev pub IsOverAt : List Label → ℕ → TakenData → Type 0
IsOverAt labels position k =
    IsSomeAnd (after_facts labels (facts_before k) None) (λ s. (position < length s.before) ⊎ (has_come s.last.ends (time_of k) ≡ true))

-- a record after the insert and by a time takes the group, and the label set is muted then, or the span at this position is over
pub record IsBegunWithout (labels : List Label) (position : ℕ) (i : InsertData) (by : ℕ) : Type 0 where
  pub between : List Record
  pub taking : Record
  pub later : List Record
  pub records : i.later ≡ between ++ taking ∷ later
  pub takes : takes i.name taking.reply ≡ true
  pub in_time : time_of (taking_after i between taking later) ≤ by
  pub why :
      (is_muted_at (taking_after i between taking later) labels ≡ true) ⊎ IsOverAt labels position (taking_after i between taking later)

-- for an integration of the group's receiver, of this kind and with this index among those of its kind: so it is by the latest time, or the
-- dispatcher's end comes by then
abbrev pub IsExcusedFor : List Label → ℕ → InsertData → Recipient → Type 0
IsExcusedFor labels position i r =
    (route_of i.playback.config i.name).receiver ≡ r.receiver
    → All (λ n. index_at (integrations_named (route_of i.playback.config i.name).receiver i.playback.config.receivers) n.0 ≡ r.index
    → n.1.kind ≡ r.kind → (i.part.until ≤ latest_after i) ⊎ IsBegunWithout labels position i (latest_after i))
    (integrations_of i.playback.config i.name)

-- law: in a rehearsal, take an insert of the span at a position, and a group that is served. Where it is listed that an integration of the
-- group's receiver wasn't notified of the span, the group is so begun by the latest time, or its dispatcher's end comes by then
abbrev pub NoSpanIsMissedInTime : Type 0
NoSpanIsMissedInTime =
    (rehearsal : Rehearsal) (changes : List DispatcherChange) (played : List PlayedPart) → ArePlayedIn rehearsal changes played
    → (labels : List Label) (s : SpansData) (position : ℕ) (span : SpanData) (is_last : Bool)
    → spans_in (map playback_of played) labels ≡ Some s → slice_get (spans_listed s) position ≡ Some span
    → (i : InsertData) → IsInsertIn (parts_with rehearsal changes) (map playback_of played) labels position i
    → IsServed (setting_of_part rehearsal.upkeep rehearsal.outages.items i.part) i.playback.config i.name
    → All (λ r. (fate : Fate) → missed_of is_last span r ≡ Some (Page fate) → IsExcusedFor labels position i r) span.recipients
