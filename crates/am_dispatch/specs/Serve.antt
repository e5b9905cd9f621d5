-- Serve: the lines of an input, each answered by a text before more is read.
use Rattle.std.specs.Prelude.{◌≡◌, ◌≢◌, ◌≤◌, ◌<◌, ◌⊎◌, ℕ, IsTrue, List, [], ◌∷◌, ◌++◌, Option, None, length}
use Rattle.std.specs.List.{concat}
use Rattle.am_json.specs.Bytes.{Breaks}
use Rattle.am_protocol.specs.Lines.{IsKept, is_plain, lines_of, whole_lines}
use Rattle.am_protocol.specs.declared.lines.Line.{Line}
use Rattle.am_protocol.specs.declared.lines.LineRead.TheVariants.{End}
use Rattle.am_session.specs.Line.{AnswersLine, Serves}
use Rattle.am_session.specs.declared.session.Session.{Session}
use Rattle.am_dispatch.specs.Trail.{are_writes, ended, given, is_read, taken, unread, unwritten}
use Rattle.am_dispatch.specs.declared.event.Event.{Event}
use Rattle.am_dispatch.specs.declared.fault.ServeFault.{ServeFault}
use Rattle.am_dispatch.specs.declared.fault.ServeFault.TheVariants as serve

-- each whole line that was given is answered, and these answers, in order, are all that was written
pub record Answered (events : List Event) : Type 0 where
  pub session : Option Session
  pub texts : List (List ℕ)
  pub serves : Serves None (whole_lines (given events)) texts session
  pub takes : taken events ≡ concat texts

-- whenever the program reads, it has answered each whole line that it was given before
abbrev pub IsPrompt : List Event → Type 0
IsPrompt events = (before : List Event) (reads : Event) (after : List Event)
    → IsTrue (is_read reads) → events ≡ before ++ reads ∷ after → Answered before

-- the input has ended, all its lines are answered, and their answers are all that was written
pub record ServesAll (events : List Event) : Type 0 where
  pub last : Option Session
  pub texts : List (List ℕ)
  pub serves : Serves None (lines_of (given events)) texts last
  pub takes : taken events ≡ concat texts
  pub ended : ended events ≡ 1
  pub unread : unread events ≡ 0
  pub unwritten : unwritten events ≡ 0

-- a read failed, after all whole lines were answered. Else the input is as long as can't be counted
pub record ReadFails (events : List Event) : Type 0 where
  pub answered : Answered events
  pub cause : (unread events ≡ 1) ⊎ (18446744073709551615 ≤ length (given events))
  pub unwritten : unwritten events ≡ 0

-- a write failed: the lines before were answered, and of the answer to this line the front is written
pub record WriteFails (events : List Event) : Type 0 where
  pub mid : Option Session
  pub new : Option Session
  pub lines : List (List ℕ)
  pub line : List ℕ
  pub behind : List (List ℕ)
  pub texts : List (List ℕ)
  pub splits : lines_of (given events) ≡ lines ++ line ∷ behind
  pub serves : Serves None lines texts mid
  pub breaks : Breaks (λ text. AnswersLine mid line text new) (concat texts) (taken events)
  pub unread : unread events ≡ 0
  pub unwritten : unwritten events ≡ 1

-- serving has stopped for this fault
abbrev pub Stops : ServeFault → List Event → Type 0
Stops serve.Unreadable events = ReadFails events
Stops serve.Unwritable events = WriteFails events

-- since then the text was written, and nothing else happened
pub record Sends (IsText : List ℕ → Type 0) (old new : List Event) : Type 0 where
  pub events : List Event
  pub grows : new ≡ old ++ events
  pub writes : IsTrue (are_writes events)
  pub is : IsText (taken events)
  pub unwritten : unwritten events ≡ 0

-- since then the front of the text was written, then a write failed, and nothing else happened
pub record BreaksOff (IsText : List ℕ → Type 0) (old new : List Event) : Type 0 where
  pub events : List Event
  pub grows : new ≡ old ++ events
  pub writes : IsTrue (are_writes events)
  pub breaks : Breaks IsText [] (taken events)
  pub unwritten : unwritten events ≡ 1

-- since then so many reads gave something, the lines were answered up to the one that has begun, and these bytes aren't used yet
pub record Serving (old new : List Event) (reads : ℕ) (session : Option Session) (line : Line) (rest : List ℕ) : Type 0 where
  pub events : List Event
  pub grows : new ≡ old ++ events
  pub many : reads ≤ length (given events)
  pub lines : List (List ℕ)
  pub texts : List (List ℕ)
  pub used : List ℕ
  pub begun : List ℕ
  pub gives : given events ≡ used ++ (begun ++ rest)
  pub all : (later : List ℕ) → lines_of (used ++ later) ≡ lines ++ lines_of later
  pub whole : (later : List ℕ) → whole_lines (used ++ later) ≡ lines ++ whole_lines later
  pub plain : IsTrue (is_plain begun)
  pub is : IsKept line.read begun line.text.items
  pub some : line.read ≢ End → 0 < length begun
  pub serves : Serves None lines texts session
  pub takes : taken events ≡ concat texts
  pub prompt : IsPrompt events
  pub ended : ended events ≡ 0
  pub unread : unread events ≡ 0
  pub unwritten : unwritten events ≡ 0
