-- FlightKeys: the keys by which the next ends of the flushes in flight are found.
use Rattle.std.specs.Prelude.{◌≡◌, ◌≢◌, ◌≤◌, ◌<◌, ◌+◌, ◌++◌, ℕ, Bool, true, IsTrue, List, [], ◌∷◌, Option, Some, None, if◌then◌else◌}
use Rattle.std.specs.Prelude.{remove, slice_get, slice_set}
use Rattle.std.specs.Option.{IsSomeAnd}
use Rattle.std.specs.BTreeSet.{contains}
use Rattle.std.specs.Ordering.{nat_cmp, ordering_then}
use Rattle.std.specs.declared.cmp.Ordering.{Ordering}
use Rattle.am_board.specs.History.{BoardData}
use Rattle.am_simulation.specs.Next.{next_end_of}
use Rattle.am_simulation.specs.Scene.{SendingData}
use Rattle.am_simulation.specs.Steps.{is_success, sent_events, with_note, with_report}
use Rattle.am_simulation.specs.declared.flight_keys.EndKey.{EndKey}
use Rattle.am_simulation.specs.declared.flight_keys.FlightKeys.{FlightKeys}
use Rattle.am_simulation.specs.declared.next.End.{End}
use Rattle.am_simulation.specs.declared.next.Next.{Next}
use Rattle.am_terms.specs.declared.event.Event.{Event}

-- the order of keys: by time, and then by begin
abbrev pub key_cmp : EndKey → EndKey → Ordering
key_cmp a b = ordering_then (nat_cmp a.at b.at) (nat_cmp a.begin b.begin)

-- whether the flush of a begin has its key, where its next end comes at this time, or none is to come
abbrev pub has_key : FlightKeys → ℕ → Option ℕ → Bool
has_key k begin None = contains nat_cmp k.ready begin
has_key k begin (Some at) = contains key_cmp k.coming (record { at = at; begin = begin })

-- the time of a step, if there is one
abbrev pub time_of : Option Next → Option ℕ
time_of None = None
time_of (Some n) = Some n.at

-- when the first of these ends comes, if one is to come
abbrev pub next_time : List End → Option ℕ
next_time ends = time_of (next_end_of 0 0 ends)

-- all keys stay
abbrev pub Keeps : FlightKeys → FlightKeys → Type 0
Keeps old new = (begin : ℕ) (next : Option ℕ) → IsTrue (has_key old begin next) → IsTrue (has_key new begin next)

-- all keys stay but those of this begin
abbrev pub KeepsOthers : ℕ → FlightKeys → FlightKeys → Type 0
KeepsOthers begin old new =
    (other : ℕ) (next : Option ℕ) → other ≢ begin → IsTrue (has_key old other next) → IsTrue (has_key new other next)

-- a key was put to the others
pub record IsPut (old : FlightKeys) (begin : ℕ) (next : Option ℕ) (new : FlightKeys) : Type 0 where
  pub whole : old.whole ≡ true
  pub has : IsTrue (has_key new begin next)
  pub keeps : Keeps old new

-- a key was put to the others, whose begin is behind theirs
pub record IsAdded (old : FlightKeys) (begin : ℕ) (next : Option ℕ) (new : FlightKeys) : Type 0 where
  pub whole : old.whole ≡ true
  pub behind : old.above ≤ begin
  pub above : new.above ≡ begin + 1
  pub has : IsTrue (has_key new begin next)
  pub keeps : Keeps old new

-- no end comes before this one: of one time, none of an earlier begin
abbrev pub IsFirstEnd : FlightKeys → EndKey → Type 0
IsFirstEnd k first = (begin at : ℕ) → IsTrue (has_key k begin (Some at)) → (first.at ≤ at) × (begin < first.begin → first.at < at)

-- no begin before this one has a flush of which no end is to come
abbrev pub IsFirstReady : FlightKeys → ℕ → Type 0
IsFirstReady k first = (begin : ℕ) → IsTrue (has_key k begin None) → first ≤ begin

-- each of these flushes has its key, and their begins rise from one number up to another
abbrev pub AreKeyed : FlightKeys → ℕ → ℕ → List SendingData → Type 0
AreKeyed k low high [] = low ≤ high
AreKeyed k low high (s ∷ ss) = (low ≤ s.begin) × IsTrue (has_key k s.begin (next_time s.ends)) × AreKeyed k (s.begin + 1) high ss

-- this step is the next end of the flush of a key, and comes at the key's time
abbrev pub IsEndOfKey : List SendingData → EndKey → Next → Type 0
IsEndOfKey ss key n =
    (position : ℕ) × IsSomeAnd (slice_get ss position)
    (λ s. (s.begin ≡ key.begin) × (next_end_of position 0 s.ends ≡ Some n) × (n.at ≡ key.at))

-- the end at an index was taken out of the flush at a position, which is this one
abbrev pub IsEndTaken : List SendingData → ℕ → ℕ → End → List SendingData → SendingData → Type 0
IsEndTaken old position index end new s =
    (slice_get s.ends index ≡ Some end) × (new ≡ slice_set old position (record s { ends = remove s.ends index }))

-- an end was reported of the flush at a position, which is this one: to its ticket, to the events, and as a success to the board
pub record IsReported (old : List SendingData) (b : BoardData) (events : List Event) (position : ℕ) (end : End)
    (new : List SendingData) (b_since : BoardData) (events_since : List Event) (s : SendingData) : Type 0 where
  pub sendings : new ≡ slice_set old position (record s { ticket = with_report end.report s.ticket })
  pub events_are : events_since ≡ events ++ sent_events s.begin end.report
  pub board : b_since ≡ (if is_success end.report then with_note end.at (with_report end.report s.ticket) end.index b else b)
