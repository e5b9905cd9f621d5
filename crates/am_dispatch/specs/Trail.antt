-- Trail: the reads and writes of a program and its peer, in order.
use Rattle.std.specs.Prelude.{◌≡◌, ◌<◌, ◌+◌, ◌++◌, ℕ, Bool, true, false, List, [], ◌∷◌, Result, Ok, Err, if◌then◌else◌, take}
use Rattle.am_dispatch.specs.declared.event.Event.{Event}
use Rattle.am_dispatch.specs.declared.event.Event.TheVariants as event

-- whether this is a read
abbrev pub is_read : Event → Bool
is_read (event.Given bytes) = true
is_read event.Ended = true
is_read event.Unread = true
is_read (event.Taken bytes) = false
is_read event.Unwritten = false

-- whether none of these is a read
abbrev pub are_writes : List Event → Bool
are_writes [] = true
are_writes (it ∷ events) = if is_read it then false else are_writes events

-- all bytes that the program was given
abbrev pub given : List Event → List ℕ
given [] = []
given (event.Given bytes ∷ events) = bytes.items ++ given events
given (event.Ended ∷ events) = given events
given (event.Unread ∷ events) = given events
given (event.Taken bytes ∷ events) = given events
given (event.Unwritten ∷ events) = given events

-- all bytes that it wrote
abbrev pub taken : List Event → List ℕ
taken [] = []
taken (event.Given bytes ∷ events) = taken events
taken (event.Ended ∷ events) = taken events
taken (event.Unread ∷ events) = taken events
taken (event.Taken bytes ∷ events) = bytes.items ++ taken events
taken (event.Unwritten ∷ events) = taken events

-- how often the input reported its end
abbrev pub ended : List Event → ℕ
ended [] = 0
ended (event.Given bytes ∷ events) = ended events
ended (event.Ended ∷ events) = 1 + ended events
ended (event.Unread ∷ events) = ended events
ended (event.Taken bytes ∷ events) = ended events
ended (event.Unwritten ∷ events) = ended events

-- how often a read failed
abbrev pub unread : List Event → ℕ
unread [] = 0
unread (event.Given bytes ∷ events) = unread events
unread (event.Ended ∷ events) = unread events
unread (event.Unread ∷ events) = 1 + unread events
unread (event.Taken bytes ∷ events) = unread events
unread (event.Unwritten ∷ events) = unread events

-- how often a write failed
abbrev pub unwritten : List Event → ℕ
unwritten [] = 0
unwritten (event.Given bytes ∷ events) = unwritten events
unwritten (event.Ended ∷ events) = unwritten events
unwritten (event.Unread ∷ events) = unwritten events
unwritten (event.Taken bytes ∷ events) = unwritten events
unwritten (event.Unwritten ∷ events) = 1 + unwritten events

-- what happened at a read into this buffer that was answered so. To get nothing is the end of the input
abbrev pub IsReadAs : {E : Type 0} → Result ℕ E → List ℕ → Event → Type 0
IsReadAs (Ok count) buffer (event.Given bytes) = (0 < count) × (bytes.items ≡ take count buffer)
IsReadAs (Ok count) buffer event.Ended = count ≡ 0
IsReadAs (Ok count) buffer event.Unread = ⊥
IsReadAs (Ok count) buffer (event.Taken bytes) = ⊥
IsReadAs (Ok count) buffer event.Unwritten = ⊥
IsReadAs (Err fault) buffer (event.Given bytes) = ⊥
IsReadAs (Err fault) buffer event.Ended = ⊥
IsReadAs (Err fault) buffer event.Unread = Unit {0}
IsReadAs (Err fault) buffer (event.Taken bytes) = ⊥
IsReadAs (Err fault) buffer event.Unwritten = ⊥

-- what happened at a write of these bytes that was answered so. To take nothing is to fail
abbrev pub IsWrittenAs : {E : Type 0} → Result ℕ E → List ℕ → Event → Type 0
IsWrittenAs (Ok count) bytes (event.Given more) = ⊥
IsWrittenAs (Ok count) bytes event.Ended = ⊥
IsWrittenAs (Ok count) bytes event.Unread = ⊥
IsWrittenAs (Ok count) bytes (event.Taken front) = (0 < count) × (front.items ≡ take count bytes)
IsWrittenAs (Ok count) bytes event.Unwritten = count ≡ 0
IsWrittenAs (Err fault) bytes (event.Given more) = ⊥
IsWrittenAs (Err fault) bytes event.Ended = ⊥
IsWrittenAs (Err fault) bytes event.Unread = ⊥
IsWrittenAs (Err fault) bytes (event.Taken front) = ⊥
IsWrittenAs (Err fault) bytes event.Unwritten = Unit {0}

-- since then one event came, and it is such
pub record Happens (old new : List Event) (IsIt : Event → Type 0) : Type 0 where
  pub it : Event
  pub is : IsIt it
  pub grows : new ≡ old ++ it ∷ []

-- since then these events came, and they are such
pub record Since (old new : List Event) (AreIt : List Event → Type 0) : Type 0 where
  pub events : List Event
  pub are : AreIt events
  pub grows : new ≡ old ++ events
