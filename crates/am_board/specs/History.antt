-- History: a board as contracts see it, by its configuration, its id and its history.
use Rattle.std.specs.Prelude.{◌≡◌, ◌≤◌, ℕ, List, [], ◌∷◌, ◌++◌, drop, length, nat_lt, Option, Some, None, Result, Ok, Err, if◌then◌else◌}
use Rattle.am_model.specs.declared.config.Config.{Config}
use Rattle.am_model.specs.declared.config.TheConstants.{MAX_HANDED}
use Rattle.am_model.specs.declared.fault.TakeFault.{TakeFault}
use Rattle.am_model.specs.declared.fault.TakeFault.TheVariants.{TooManyCalls}
use Rattle.am_model.specs.declared.record.Record.{Record}
use Rattle.am_model.specs.declared.record.Call.{Call}
use Rattle.am_model.specs.declared.record.Reply.{Reply}
use Rattle.am_model.specs.declared.record.Reply.TheVariants as replies
use Rattle.am_board.specs.declared.begin.Begun.{Begun}
use Rattle.am_board.specs.declared.begin.Begun.TheVariants.{NothingDue, Quiet, Flush}
use Rattle.am_board.specs.declared.fault.FinishFault.{FinishFault}
use Rattle.am_board.specs.declared.fault.FinishFault.TheVariants.{Foreign, NotOpen}
use Rattle.am_model.specs.declared.record.Finished.{Finished}
use Rattle.am_model.specs.Ticket.{TicketData}
use Rattle.am_model.specs.Records.{flush_reply}
use Rattle.am_model.specs.Replay.{reply, replay}
use Rattle.am_model.specs.State.{State}

-- all calls that a board ever accepted, and the beginning of these that it handed out
pub record BoardData : Type 0 where
  pub config : Config
  pub id : ℕ
  pub handed : List Record
  pub history : List Record

-- a board that accepted no call yet
abbrev pub opening : Config → ℕ → BoardData
opening config id = record { config = config; id = id; handed = []; history = [] }

-- the board after an accepted call
abbrev pub with_record : BoardData → Record → BoardData
with_record board r = record { config = board.config; id = board.id; handed = board.handed; history = board.history ++ r ∷ [] }

-- the board after it handed out all records that it kept
abbrev pub handed_out : BoardData → BoardData
handed_out board = record { config = board.config; id = board.id; handed = board.history; history = board.history }

-- the state of a board: the replay of its history
abbrev pub state_at : BoardData → State
state_at board = replay board.config board.history

-- the records that a board keeps: those that it didn't hand out
abbrev pub kept_of : BoardData → List Record
kept_of board = drop (length board.handed) board.history

-- how many records a board keeps
abbrev pub records_at : BoardData → ℕ
records_at board = length (kept_of board)

-- why a board doesn't hand out its records: it would have handed out more than the limit
abbrev pub take_cause : BoardData → Option TakeFault
take_cause board = if nat_lt MAX_HANDED (length board.history) then Some TooManyCalls else None

-- a board's state has no more known alerts, groups, silences and open flushes than its limits
pub record KeepsLimits (board : BoardData) : Type 0 where
  pub names : length (state_at board).known ≤ board.config.limits.alerts
  pub groups : length (state_at board).groups ≤ board.config.limits.groups
  pub silences : length (state_at board).silences ≤ board.config.limits.silences
  pub flushes : length (state_at board).flushes ≤ board.config.limits.flushes

-- a call returned what the definitions give at the state of a board
abbrev pub IsReplyAt : BoardData → Call → Reply → Type 0
IsReplyAt board call returned = reply board.config board.id (state_at board) call ≡ Some returned

-- the reply that a begin returned
abbrev pub reply_of : Begun → Reply
reply_of NothingDue = replies.NothingDue
reply_of (Quiet group removed) = replies.Quiet group removed
reply_of (Flush ticket) = flush_reply ticket.number ticket.group ticket.deadline ticket.notices

-- the ticket of a flush names this desk, and nothing is recorded in it
abbrev pub IsFresh : ℕ → Begun → Type 0
IsFresh id NothingDue = Unit {0}
IsFresh id (Quiet group removed) = Unit {0}
IsFresh id (Flush ticket) = (ticket.board_id ≡ id) × (ticket.outcomes ≡ [])

-- the fault hands this ticket back
abbrev pub HandsBack : TicketData → FinishFault → Type 0
HandsBack ticket (Foreign t) = t ≡ ticket
HandsBack ticket NotOpen = Unit {0}

-- a finish that was refused since the ticket names another desk
abbrev pub IsForeign : Result Finished FinishFault → Type 0
IsForeign (Ok finished) = ⊥
IsForeign (Err (Foreign t)) = Unit {0}
IsForeign (Err NotOpen) = ⊥

-- a finish that was refused since no flush of the ticket's number is open
abbrev pub IsNotOpen : Result Finished FinishFault → Type 0
IsNotOpen (Ok finished) = ⊥
IsNotOpen (Err (Foreign t)) = ⊥
IsNotOpen (Err NotOpen) = Unit {0}
