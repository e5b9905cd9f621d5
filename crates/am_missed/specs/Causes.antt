-- Causes: what a rehearsal lists of a span of firing that an integration missed says why, at each flush that came in the span.
use Rattle.std.specs.Prelude.{◌≡◌, ◌≢◌, ℕ, ◌≤◌, Bool, true, false, ◌||◌, ◌⊎◌, All, List, [], ◌∷◌, ◌++◌, Some, None}
use Rattle.std.specs.Prelude.{is_some, length, slice_get}
use Rattle.std.specs.Option.{IfSome}
use Rattle.am_alerts.specs.AlertData.{has_come}
use Rattle.am_alerts.specs.declared.labels.Label.{Label}
use Rattle.am_alerts.specs.declared.limits.TheConstants.{MAX_TIME}
use Rattle.am_mute.specs.Mute.{is_muted}
use Rattle.am_model.specs.declared.group.GroupName.{GroupName}
use Rattle.am_model.specs.declared.record.Record.{Record}
use Rattle.am_model.specs.Carry.{index_at, position_of}
use Rattle.am_model.specs.Configured.{integrations_named, integrations_of, route_muted, route_of, rules_of}
use Rattle.am_model.specs.Finish.{is_delivered}
use Rattle.am_model.specs.Outcomes.{outcomes_in}
use Rattle.am_model.specs.Records.{now_of}
use Rattle.am_model.specs.Replay.{IsLegal}
use Rattle.am_model.specs.Ticket.{outcome_of}
use Rattle.am_model.specs.look_back.Entry.{alert_in, known_in, silences_in}
use Rattle.am_model.specs.look_back.Laws.{number_in}
use Rattle.am_model.specs.look_back.Past.{Past, past_of, takes, time_at}
use Rattle.am_model.specs.look_back.Presence.{goes_to}
use Rattle.am_paging.specs.Paging.{HasHeard, pages}
use Rattle.am_simulation.specs.Previews.{previews_of}
use Rattle.am_timeline.specs.Playback.{PlaybackData}
use Rattle.am_undelivered.specs.Spans.{Fact, SpanData, SpansData, after_facts, facts_from, facts_of, is_unflushed, spans_in}
use Rattle.am_undelivered.specs.Undelivered.{missed_of}
use Rattle.am_undelivered.specs.declared.fate.Fate.{Fate}
use Rattle.am_undelivered.specs.declared.fate.Fate.TheVariants.{Failed, Muted, Seen, Unflushed, Unlisted}
use Rattle.am_undelivered.specs.declared.missed.Missed.TheVariants.{Page}
use Rattle.am_undelivered.specs.declared.recipient.Recipient.{Recipient}

-- a dispatcher of a rehearsal ran: its history is legal, its begins are those that its history gives, and no insert comes after the
-- greatest time
pub record HasRun (p : PlaybackData) : Type 0 where
  pub id : ℕ
  pub legal : IsLegal p.config id p.history
  pub begins : p.begins ≡ previews_of p.config p.history
  pub times : All (λ r. IfSome (alert_in r.call) (λ a. now_of r.call ≤ MAX_TIME)) p.history

-- ---- flushes that come in a span

-- a record of a rehearsal that takes a group, with the dispatchers and the records before and after it
pub record TakenData : Type 0 where
  pub before : List PlaybackData
  pub playback : PlaybackData
  pub after : List PlaybackData
  pub earlier : List Record
  pub taking : Record
  pub later : List Record
  pub name : GroupName

-- it is one of this rehearsal
pub record IsTakenIn (playbacks : List PlaybackData) (k : TakenData) : Type 0 where
  pub dispatchers : playbacks ≡ k.before ++ k.playback ∷ k.after
  pub records : k.playback.history ≡ k.earlier ++ k.taking ∷ k.later
  pub takes : takes k.name k.taking.reply ≡ true

-- the records before it of its dispatcher, the latest first
abbrev pub past_at : TakenData → Past
past_at k = past_of k.earlier

-- its time
abbrev pub time_of : TakenData → ℕ
time_of k = time_at (k.taking ∷ past_at k)

-- what happened before it
abbrev pub facts_before : TakenData → List Fact
facts_before k = facts_of 0 k.before ++ facts_from (length k.before) k.playback 0 0 k.earlier

-- it comes in the span of firing of a label set that has this position: by what happened before it that is the last span, isn't over at its
-- time, and had its last insert under this dispatcher. And a route leads the label set to the group
pub record ComesIn (labels : List Label) (position : ℕ) (k : TakenData) : Type 0 where
  pub spans : SpansData
  pub known : after_facts labels (facts_before k) None ≡ Some spans
  pub last : length spans.before ≡ position
  pub fires : has_come spans.last.ends (time_of k) ≡ false
  pub inserted : spans.part ≡ length k.before
  pub leads : goes_to k.playback.config k.name labels ≡ true

-- ---- why an integration wasn't notified

-- an interval mutes the route of its group, or a silence or a rule mutes the label set
abbrev pub is_muted_at : TakenData → List Label → Bool
is_muted_at k labels =
    is_some (route_muted k.playback.config k.name (time_of k))
    || is_muted labels (time_of k) (silences_in (past_at k)) (rules_of k.playback.config) (known_in (past_at k))

-- it has a notice for an integration that lists the label set as firing, and no finish reports that delivered
pub record FailsAt (k : TakenData) (labels : List Label) (integration : ℕ) : Type 0 where
  pub sent : pages integration labels k.taking.reply ≡ true
  pub undelivered : is_delivered (outcome_of (outcomes_in (number_in k.taking.reply) k.later) integration) ≡ false

-- what a fate says of each flush that comes in a span, for an integration: there is none, or each is muted, or each is muted or fails
abbrev pub Explains : Fate → TakenData → List Label → ℕ → Type 0
Explains Unflushed k labels integration = ⊥
Explains Unlisted k labels integration = ⊥
Explains (Muted part begin) k labels integration = is_muted_at k labels ≡ true
Explains Failed k labels integration = (is_muted_at k labels ≡ true) ⊎ FailsAt k labels integration
Explains Seen k labels integration = Unit {0}

-- a fate says so of each flush of a receiver's groups, for the integration of this kind and this index among those of its kind
abbrev pub ExplainsEach : List PlaybackData → List Label → ℕ → Recipient → Fate → Type 0
ExplainsEach playbacks labels position r fate =
    (k : TakenData) → IsTakenIn playbacks k → ComesIn labels position k → (route_of k.playback.config k.name).receiver ≡ r.receiver
    → All (λ i. index_at (integrations_named (route_of k.playback.config k.name).receiver k.playback.config.receivers) i.0 ≡ r.index
    → i.1.kind ≡ r.kind → Explains fate k labels i.0) (integrations_of k.playback.config k.name)

-- the spans of a label set, in their order
abbrev pub spans_listed : SpansData → List SpanData
spans_listed s = s.before ++ s.last ∷ []

-- where it is listed that an integration missed a span of firing, the line says why at each flush that comes in the span
abbrev pub HasCauses : List PlaybackData → Type 0
HasCauses playbacks =
    (labels : List Label) (s : SpansData) (position : ℕ) (span : SpanData) (is_last : Bool)
    → spans_in playbacks labels ≡ Some s → slice_get (spans_listed s) position ≡ Some span
    → All (λ r. (fate : Fate) → missed_of is_last span r ≡ Some (Page fate) → ExplainsEach playbacks labels position r fate) span.recipients

-- so it is in a rehearsal whose dispatchers ran
abbrev pub MissedSpansHaveCauses : Type 0
MissedSpansHaveCauses = (playbacks : List PlaybackData) → All HasRun playbacks → HasCauses playbacks

-- ---- what is listed came of a flush

-- it has a notice for an integration that lists the label set as firing, and a finish reports that delivered; or it has heard before
abbrev pub HearsAt : TakenData → List Label → ℕ → Type 0
HearsAt k labels integration =
    ((pages integration labels k.taking.reply ≡ true)
    × (is_delivered (outcome_of (outcomes_in (number_in k.taking.reply) k.later) integration) ≡ true))
    ⊎ HasHeard k.playback.config k.name integration labels (time_of k) (past_at k)

-- what a fate says of the flush that it is of, for an integration: it was muted, its notice failed, or it heard
abbrev pub Shows : Fate → TakenData → List Label → ℕ → Type 0
Shows Unflushed k labels integration = Unit {0}
Shows Unlisted k labels integration = Unit {0}
Shows (Muted part begin) k labels integration = is_muted_at k labels ≡ true
Shows Failed k labels integration = FailsAt k labels integration
Shows Seen k labels integration = HearsAt k labels integration

-- a flush of a receiver's group comes in a span, and a fate says so of it, for the integration of this kind and index, which is at a place
pub record IsShown (playbacks : List PlaybackData) (labels : List Label) (position : ℕ) (r : Recipient) (fate : Fate) : Type 0 where
  pub flush : TakenData
  pub taken : IsTakenIn playbacks flush
  pub comes : ComesIn labels position flush
  pub receiver : (route_of flush.playback.config flush.name).receiver ≡ r.receiver
  pub place : ℕ
  pub named : position_of r.kind r.index 0 (integrations_named r.receiver flush.playback.config.receivers) ≡ Some place
  pub shows : Shows fate flush labels place

-- whoever isn't listed as not notified of a span has heard at a flush that comes in it, and a cause that is listed is that of such a flush
abbrev pub ShowsCauses : List PlaybackData → Type 0
ShowsCauses playbacks =
    (labels : List Label) (s : SpansData) (position : ℕ) (span : SpanData) (is_last : Bool)
    → spans_in playbacks labels ≡ Some s → slice_get (spans_listed s) position ≡ Some span
    → All (λ r. (((fate : Fate) → missed_of is_last span r ≢ Some (Page fate)) → IsShown playbacks labels position r Seen)
    × ((fate : Fate) → missed_of is_last span r ≡ Some (Page fate) → (is_unflushed fate ≡ true) ⊎ IsShown playbacks labels position r fate))
    span.recipients

-- so it is in a rehearsal whose dispatchers ran
abbrev pub CausesCame : Type 0
CausesCame = (playbacks : List PlaybackData) → All HasRun playbacks → ShowsCauses playbacks
