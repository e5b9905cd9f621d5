-- Line: what a line is answered by, and lines one after the other.
use Rattle.std.specs.Prelude.{◌≡◌, ◌≢◌, ◌≤◌, ◌==◌, ◌&&◌, ◌||◌, ℕ, Bool}
use Rattle.std.specs.Prelude.{true, List, [], ◌∷◌, ◌++◌, Option, Some, None, codes, length}
use Rattle.json.specs.Print.{print}
use Rattle.am_json.specs.declared.transfer.TheConstants.{MAX_INPUT}
use Rattle.am_board.specs.History.{opening as opening_board}
use Rattle.am_protocol.specs.declared.fault.LineFault.{LineFault}
use Rattle.am_protocol.specs.declared.fault.LineFault.TheVariants as fault
use Rattle.am_protocol.specs.declared.opening.Opening.{Opening}
use Rattle.am_protocol.specs.declared.request.Request.{Request}
use Rattle.am_protocol.specs.declared.request.Request.TheVariants as request
use Rattle.am_protocol.specs.Fault.{IsRefusedAs, AnswersFault}
use Rattle.am_protocol.specs.Lines.{IsOneLine}
use Rattle.am_protocol.specs.Reply.{opened_tokens}
use Rattle.am_session.specs.Session.{IsAnswered, IsRequest, IsUnread, Refuses}
use Rattle.am_session.specs.declared.session.Session.{Session}
use Rattle.am_session.specs.declared.ticket.TheConstants.{BOARD_ID}

-- whether a line of so many bytes is a comment, or a carriage return alone, by its first byte
abbrev pub begins_remark : ℕ → ℕ → Bool
begins_remark byte count = (byte == 35) || ((byte == 13) && (count == 1))

-- whether a line is a comment, or empty except for the carriage return of a line end of two bytes
abbrev pub is_remark : List ℕ → Bool
is_remark [] = true
is_remark (b ∷ line) = begins_remark b (length (b ∷ line))

-- the session has the board that is asked for, which is new, and the text says so
pub record IsOpenedBy (opening : Opening) (text : List ℕ) (new : Session) : Type 0 where
  pub board : new.board ≡ opening_board opening.config BOARD_ID
  pub tickets : new.tickets.items ≡ []
  pub answered : text ≡ print (opened_tokens opening.config opening.ignored) ++ 10 ∷ []
  pub one : IsOneLine text

-- the line asks for a board, and the session has it
abbrev pub Opened : List ℕ → List ℕ → Session → Type 0
Opened line text new = (opening : Opening) × IsRequest line (request.Open opening) × IsOpenedBy opening text new

-- the request of the line is done, and the text is its answer. Where there is no board yet, the request opens one
abbrev pub DoesRequest : Option Session → List ℕ → List ℕ → Option Session → Type 0
DoesRequest None line text None = ⊥
DoesRequest None line text (Some new) = Opened line text new
DoesRequest (Some old) line text None = ⊥
DoesRequest (Some old) line text (Some new) = IsAnswered old line text new

-- the request doesn't open a board, and the fault says that there is none
abbrev pub LacksBoard : Request → LineFault → Type 0
LacksBoard requested f = ((opening : Opening) → requested ≢ request.Open opening) × IsRefusedAs f [] (codes "NoBoard")

-- what a line that opens no board is refused for: it can't be read, there was no memory, or what it asks needs a board
abbrev pub OpensNone : List ℕ → LineFault → Type 0
OpensNone line (fault.NotJson column) = IsUnread line (fault.NotJson column)
OpensNone line fault.TooLong = IsUnread line fault.TooLong
OpensNone line fault.NoMemory = Unit {0}
OpensNone line fault.Untold = ⊥
OpensNone line fault.Spent = ⊥
OpensNone line (fault.Refused pointer kind) = IsUnread line (fault.Refused pointer kind)
OpensNone line (fault.NotMade pointer kind message) =
    (requested : Request) × IsRequest line requested × LacksBoard requested (fault.NotMade pointer kind message)

-- the line is refused for this fault
abbrev pub IsRefused : Option Session → List ℕ → LineFault → Option Session → Type 0
IsRefused None line f None = OpensNone line f
IsRefused None line f (Some new) = ⊥
IsRefused (Some old) line f None = ⊥
IsRefused (Some old) line f (Some new) = Refuses old line new f

-- a line is answered by a text: a remark by itself, and each other line by what it asks for or by its fault
pub data AnswersLine (old : Option Session) (line text : List ℕ) (new : Option Session) : Type 0 where
  Echoed : is_remark line ≡ true → length line ≤ MAX_INPUT → text ≡ line ++ 10 ∷ [] → new ≡ old → AnswersLine old line text new
  Done : DoesRequest old line text new → AnswersLine old line text new
  Faulted : (f : LineFault) → (is_remark line ≡ true → length line ≤ MAX_INPUT → f ≡ fault.NoMemory)
      → IsRefused old line f new → AnswersFault f text → AnswersLine old line text new

-- each of these lines is answered by one of these texts, in their order
abbrev pub Serves : Option Session → List (List ℕ) → List (List ℕ) → Option Session → Type 0
Serves old [] [] new = new ≡ old
Serves old [] (text ∷ texts) new = ⊥
Serves old (line ∷ lines) [] new = ⊥
Serves old (line ∷ lines) (text ∷ texts) new = (mid : Option Session) × AnswersLine old line text mid × Serves mid lines texts new
