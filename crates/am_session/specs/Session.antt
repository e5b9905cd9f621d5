-- Session: what a session does for a request, and what its answer has.
use Rattle.std.specs.Prelude.{◌≡◌, ◌≢◌, ◌⊎◌, ◌<◌, ◌==◌, ℕ, IfSome, List, [], ◌∷◌, ◌++◌, Some, None, codes, length, remove}
use Rattle.std.specs.List.{position}
use Rattle.json.specs.Print.{print}
use Rattle.json.specs.Token.{Token}
use Rattle.serde_json.specs.Data.{Data}
use Rattle.serde_json.specs.Read.{read}
use Rattle.am_json.specs.Read.{IsNoJson}
use Rattle.am_json.specs.declared.fault.FaultKind.{FaultKind}
use Rattle.am_json.specs.declared.reader.Mode.TheVariants.{Strict}
use Rattle.am_json.specs.declared.transfer.TheConstants.{MAX_INPUT}
use Rattle.am_model.specs.declared.views.Summary.{Summary}
use Rattle.am_model.specs.declared.record.Call.{Call}
use Rattle.am_model.specs.declared.record.Call.TheVariants as call
use Rattle.am_model.specs.declared.record.Finished.{Finished}
use Rattle.am_model.specs.declared.record.Record.{Record}
use Rattle.am_model.specs.declared.record.Reply.{Reply}
use Rattle.am_model.specs.declared.record.Reply.TheVariants as reply
use Rattle.am_model.specs.Begin.{next_due}
use Rattle.am_model.specs.Causes.{insert_cause}
use Rattle.am_model.specs.declared.views.RowView.{RowView}
use Rattle.am_model.specs.Records.{call_of_silence, entry, IsNoteOf}
use Rattle.am_model.specs.Replay.{IsLegal}
use Rattle.am_model.specs.State.{flush_numbered}
use Rattle.am_model.specs.Status.{label_status}
use Rattle.am_model.specs.Ticket.{TicketData}
use Rattle.am_model.specs.Views.{group_views, row_views, summary, summary_data}
use Rattle.am_model.specs.look_back.Preview.{preview}
use Rattle.am_board.specs.declared.begin.Begun.{Begun}
use Rattle.am_board.specs.declared.begin.Begun.TheVariants as begun
use Rattle.am_board.specs.History.{BoardData, IsFresh, IsReplyAt, handed_out, kept_of, opening as opening_board, records_at}
use Rattle.am_board.specs.History.{reply_of, state_at, with_record}
use Rattle.am_board.specs.Logged.{finished_rows, noted_row}
use Rattle.am_protocol.specs.declared.fault.LineFault.{LineFault}
use Rattle.am_protocol.specs.declared.fault.LineFault.TheVariants as fault
use Rattle.am_protocol.specs.declared.request.Finishing.{Finishing}
use Rattle.am_protocol.specs.declared.inserts.InsertEnd.{InsertEnd}
use Rattle.am_protocol.specs.declared.inserts.InsertEnd.TheVariants.{Made, Refused}
use Rattle.am_protocol.specs.declared.request.ListedInsert.{ListedInsert}
use Rattle.am_protocol.specs.declared.request.ListedInsert.TheVariants as listed_insert
use Rattle.am_protocol.specs.declared.request.Loading.{Loading}
use Rattle.am_protocol.specs.declared.request.Noting.{Noting}
use Rattle.am_protocol.specs.declared.request.Reporting.{Reporting}
use Rattle.am_protocol.specs.declared.opening.Opening.{Opening}
use Rattle.am_protocol.specs.declared.request.Request.{Request}
use Rattle.am_protocol.specs.declared.request.Request.TheVariants as request
use Rattle.am_protocol.specs.Begun.{begun_tokens}
use Rattle.am_protocol.specs.Call.{form_fault}
use Rattle.am_protocol.specs.Check.{checked_tokens}
use Rattle.am_protocol.specs.Fault.{IsOfInput}
use Rattle.am_protocol.specs.Inserts.{insert_end_tokens}
use Rattle.am_protocol.specs.Lines.{IsOneLine}
use Rattle.am_protocol.specs.Logged.{finished_tokens, noted_tokens}
use Rattle.am_protocol.specs.Record.{record_tokens}
use Rattle.am_protocol.specs.Reply.{named, opened_tokens, reply_tokens}
use Rattle.am_protocol.specs.Request.{IsRequestIn, IsSureRequestIn}
use Rattle.am_protocol.specs.Status.{status_tokens}
use Rattle.am_protocol.specs.View.{due_tokens, group_view_tokens, listed, outlook_tokens, row_tokens, summary_tokens}
use Rattle.am_session.specs.Refusal.{AnswersCause, IsCauseOf}
use Rattle.am_session.specs.Row.{row_named}
use Rattle.am_session.specs.Ticket.{IsFirst, IsNoticeAt, IsRecordedAt, ticket_tokens}
use Rattle.am_session.specs.declared.session.Session.{Session}
use Rattle.am_session.specs.declared.ticket.TheConstants.{BOARD_ID}

-- the board and the tickets are as they were
abbrev pub IsSame : Session → Session → Type 0
IsSame old new = (new.board ≡ old.board) × (new.tickets.items ≡ old.tickets.items)

-- the board makes this call: it records the call with the reply that the definitions give, and the answer has that reply
pub record MakesWith (old new : Session) (made : Call) (reply : Reply) (before after : List Token) : Type 0 where
  pub due : IsReplyAt old.board made reply
  pub recorded : new.board ≡ with_record old.board (entry 0 made reply)
  pub answered : after ≡ before ++ reply_tokens old.board.config reply

abbrev pub Makes : Session → Session → Call → List Token → List Token → Type 0
Makes old new made before after = (reply : Reply) × MakesWith old new made reply before after

-- the tickets after a begin: one more where a flush was opened
abbrev pub KeepsTicket : Begun → List TicketData → List TicketData → Type 0
KeepsTicket begun.NothingDue old new = new ≡ old
KeepsTicket (begun.Quiet group removed) old new = new ≡ old
KeepsTicket (begun.Flush ticket) old new = new ≡ old ++ ticket ∷ []

-- a begin, whose ticket is kept: the answer has the reply and what a preview before it would say, which is why
pub record BeginsWith (old new : Session) (now : ℕ) (b : Begun) (before after : List Token) : Type 0 where
  pub due : IsReplyAt old.board (call.Begin now) (reply_of b)
  pub recorded : new.board ≡ with_record old.board (entry 0 (call.Begin now) (reply_of b))
  pub answered :
      after ≡ before ++ begun_tokens old.board.config (reply_of b) (preview old.board.config old.board.history now)
  pub fresh : IsFresh BOARD_ID b
  pub tickets : KeepsTicket b old.tickets.items new.tickets.items

abbrev pub Begins : Session → Session → ℕ → List Token → List Token → Type 0
Begins old new now before after = (b : Begun) × BeginsWith old new now b before after

-- a report is recorded in its ticket
pub record Reports (old new : Session) (r : Reporting) (before after : List Token) : Type 0 where
  pub index : ℕ
  pub first : position (λ t. t.number == r.ticket) old.tickets.items ≡ Some index
  pub recorded : IsRecordedAt old.tickets.items index r.integration r.outcome new.tickets.items
  pub answered : after ≡ before ++ named (codes "reported") []

-- a note of the notice of an integration of a ticket, and the answer has the row that it logs
pub record Notes (old new : Session) (n : Noting) (before after : List Token) : Type 0 where
  pub index : ℕ
  pub ticket : TicketData
  pub at : IsFirst n.ticket old.tickets.items index ticket
  pub notice : ℕ
  pub noticed : IsNoticeAt n.integration ticket.notices notice
  pub r : Record
  pub note : IsNoteOf 0 n.now ticket notice r
  pub due : IsReplyAt old.board r.call r.reply
  pub recorded : new.board ≡ with_record old.board r
  pub row : RowView
  pub logged : noted_row old.board n.now n.integration ticket ≡ Some row
  pub answered : after ≡ before ++ noted_tokens old.board.config row

-- a finish, which takes the ticket, and the answer has the rows that it logs
pub record Finishes (old new : Session) (f : Finishing) (before after : List Token) : Type 0 where
  pub index : ℕ
  pub ticket : TicketData
  pub at : IsFirst f.ticket old.tickets.items index ticket
  pub x : Finished
  pub due : IsReplyAt old.board (call.Finish f.now ticket.number ticket.outcomes) (reply.Finished x)
  pub recorded : new.board ≡ with_record old.board (entry 0 (call.Finish f.now ticket.number ticket.outcomes) (reply.Finished x))
  pub answered : after ≡ before ++ finished_tokens old.board.config x (finished_rows old.board f.now ticket)
  pub tickets : new.tickets.items ≡ remove old.tickets.items index

-- a load of the row that is named
pub record Loads (old new : Session) (l : Loading) (before after : List Token) : Type 0 where
  pub row : RowView
  pub is : row_named old.board.config l.row ≡ Some row
  pub makes : Makes old new (call.Load l.now row) before after

-- one of several inserts, and what becomes of it: the board makes it, or refuses it and all is as it was; a value that was refused
-- when it was read changes nothing
abbrev pub InsertsOne : Session → ListedInsert → InsertEnd → Session → Type 0
InsertsOne old (listed_insert.Read x) (Made inserted) new =
    IsReplyAt old.board (call.Insert x.now x.alert) (reply.Inserted inserted)
    × (new.board ≡ with_record old.board (entry 0 (call.Insert x.now x.alert) (reply.Inserted inserted)))
    × (new.tickets.items ≡ old.tickets.items)
InsertsOne old (listed_insert.Read x) (Refused f) new =
    IsSame old new
    × AnswersCause (codes "/inserts") (insert_cause old.board.config (records_at old.board) (state_at old.board) x.alert) f
InsertsOne old (listed_insert.Refused cause) (Made inserted) new = ⊥
InsertsOne old (listed_insert.Refused cause) (Refused f) new = IsSame old new × IsOfInput cause f

-- several inserts, and what becomes of each: one after the other, as if each came in a line of its own. So one that is refused refuses
-- no other
abbrev pub InsertsEach : Session → List ListedInsert → List InsertEnd → Session → Type 0
InsertsEach old [] [] new = IsSame old new
InsertsEach old [] (end ∷ ends) new = ⊥
InsertsEach old (insert ∷ inserts) [] new = ⊥
InsertsEach old (insert ∷ inserts) (end ∷ ends) new =
    (mid : Session) × InsertsOne old insert end mid × InsertsEach mid inserts ends new

-- they are made, and the answer says what became of each
abbrev pub InsertsAll : Session → List ListedInsert → Session → List Token → List Token → Type 0
InsertsAll old inserts new before after =
    (ends : List InsertEnd) × InsertsEach old inserts ends new × (after ≡ before ++ listed (codes "inserts") insert_end_tokens ends)

-- a view changes nothing, and the answer says these
abbrev pub Shows : Session → Session → List Token → List Token → List Token → Type 0
Shows old new tokens before after = IsSame old new × (after ≡ before ++ tokens)

-- the answer has the counts of a board
abbrev pub AnswersSummary : BoardData → List Token → List Token → Type 0
AnswersSummary board before after =
    (s : Summary) × (summary_data s ≡ summary board.config board.history) × (after ≡ before ++ summary_tokens s)

-- the records that a board keeps
abbrev pub taken_tokens : BoardData → List Token
taken_tokens board = listed (codes "taken") (record_tokens board.config) (kept_of board)

-- the board has handed out the records that it kept behind those before, all of them one legal history, and nothing else changed
pub record HandsOut (old new : Session) : Type 0 where
  pub board : new.board ≡ handed_out old.board
  pub follow : new.board.handed ≡ old.board.handed ++ kept_of old.board
  pub legal : IsLegal new.board.config new.board.id new.board.handed
  pub tickets : new.tickets.items ≡ old.tickets.items

-- it has, and the line has these records
abbrev pub Takes : Session → Session → List ℕ → Type 0
Takes old new text = HandsOut old new × (text ≡ print (taken_tokens old.board) ++ 10 ∷ []) × IsOneLine text

-- a new board in the place of the old one
abbrev pub Opens : Session → Opening → List Token → List Token → Type 0
Opens new opening before after =
    (new.board ≡ opening_board opening.config BOARD_ID) × (new.tickets.items ≡ [])
    × (after ≡ before ++ opened_tokens opening.config opening.ignored)

-- the session does what the request asks for, and answers with it
abbrev pub Does : Session → Request → Session → List Token → List Token → Type 0
Does old (request.Open opening) new before after = Opens new opening before after
Does old (request.Insert x) new before after =
    Makes old new (call.Insert x.now x.alert) before after × (new.tickets.items ≡ old.tickets.items)
Does old (request.Inserts xs) new before after = InsertsAll old xs.items new before after
Does old (request.Silence x) new before after =
    Makes old new (call_of_silence x.now x.silence) before after × (new.tickets.items ≡ old.tickets.items)
Does old (request.Begin x) new before after = Begins old new x.now before after
Does old (request.Report x) new before after = Reports old new x before after × (new.board ≡ old.board)
Does old (request.Note x) new before after = Notes old new x before after × (new.tickets.items ≡ old.tickets.items)
Does old (request.Finish x) new before after = Finishes old new x before after
Does old (request.Maintain x) new before after =
    Makes old new (call.Maintain x.now) before after × (new.tickets.items ≡ old.tickets.items)
Does old (request.RemoveEmptyGroups x) new before after =
    Makes old new (call.RemoveEmptyGroups x.now) before after × (new.tickets.items ≡ old.tickets.items)
Does old (request.Forget x) new before after =
    Makes old new (call.Forget x.now) before after × (new.tickets.items ≡ old.tickets.items)
Does old (request.Load x) new before after = Loads old new x before after × (new.tickets.items ≡ old.tickets.items)
Does old request.NextDue new before after = Shows old new (due_tokens (next_due (state_at old.board))) before after
Does old (request.Outlook x) new before after =
    Shows old new (outlook_tokens old.board.config (preview old.board.config old.board.history x.now)) before after
Does old (request.Status x) new before after =
    Shows old new (status_tokens old.board.config (label_status old.board.config (state_at old.board) x.labels x.now)) before after
Does old request.Rows new before after =
    Shows old new (listed (codes "rows") (row_tokens old.board.config) (row_views (state_at old.board))) before after
Does old request.Groups new before after =
    Shows old new (listed (codes "groups") (group_view_tokens old.board.config) (group_views (state_at old.board))) before after
Does old request.Summary new before after = IsSame old new × AnswersSummary old.board before after
Does old request.Tickets new before after =
    Shows old new (listed (codes "tickets") (ticket_tokens old.board.config) old.tickets.items) before after
Does old request.TakeHistory new before after = HandsOut old new × (after ≡ before ++ taken_tokens old.board)
Does old (request.Check x) new before after = Shows old new (checked_tokens x) before after

-- the session has done what is asked, whatever is answered about it
abbrev pub HasDone : Session → Request → Session → Type 0
HasDone old requested new = (tokens : List Token) × Does old requested new [] tokens

-- a finish took its ticket, and the board has no open flush of that number
pub record Spends (old new : Session) (f : Finishing) : Type 0 where
  pub index : ℕ
  pub ticket : TicketData
  pub at : IsFirst f.ticket old.tickets.items index ticket
  pub not_open : flush_numbered (state_at old.board).flushes ticket.number ≡ None
  pub board : new.board ≡ old.board
  pub tickets : new.tickets.items ≡ remove old.tickets.items index

abbrev pub SpendsTicket : Session → Request → Session → Type 0
SpendsTicket old (request.Finish f) new = Spends old new f
SpendsTicket old requested new = ⊥

-- what is asked and isn't answered by what it asks for leaves all as it was, and the fault says why. Except that the call was
-- made, if only memory for its answer was refused (what takes the records is answered, or isn't made), and that a finish has spent its
-- ticket, if the board has no such flush
abbrev pub Leaves : Session → Request → Session → LineFault → Type 0
Leaves old requested new (fault.NotJson column) = ⊥
Leaves old requested new fault.TooLong = ⊥
Leaves old requested new fault.NoMemory = IsSame old new × IsCauseOf old requested fault.NoMemory
Leaves old requested new fault.Untold = HasDone old requested new × (requested ≢ request.TakeHistory)
Leaves old requested new fault.Spent = SpendsTicket old requested new
Leaves old requested new (fault.Refused index kind) = ⊥
Leaves old requested new (fault.NotMade index kind message) = IsSame old new × IsCauseOf old requested (fault.NotMade index kind message)

-- the line is the JSON text of what asks this
abbrev pub IsRequest : List ℕ → Request → Type 0
IsRequest line request = (value : Data) × (read line ≡ Some value) × IsRequestIn Strict value request

-- a value is refused for a fault of this kind: of its form, if that is at fault. It is no request that is never refused
pub record IsValueRefused (value : Data) (kind : FaultKind) : Type 0 where
  pub form : IfSome (form_fault value) (λ k. kind ≡ k)
  pub none : (asked : Request) → IsSureRequestIn Strict value asked → ⊥

-- what keeps a line from asking something: it is no JSON, or too long, or its value is refused; of memory nothing is said
abbrev pub IsUnread : List ℕ → LineFault → Type 0
IsUnread line (fault.NotJson column) = IsNoJson line
IsUnread line fault.TooLong = MAX_INPUT < length line
IsUnread line fault.NoMemory = Unit {0}
IsUnread line fault.Untold = ⊥
IsUnread line fault.Spent = ⊥
IsUnread line (fault.Refused pointer kind) = (value : Data) × (read line ≡ Some value) × IsValueRefused value kind
IsUnread line (fault.NotMade pointer kind message) = ⊥

-- the session does what the request asks for, and the text is the answer: its tokens, and a line feed, which is its only one
pub record IsAnswerTo (old : Session) (request : Request) (text : List ℕ) (new : Session) : Type 0 where
  pub tokens : List Token
  pub does : Does old request new [] tokens
  pub text_is : text ≡ print tokens ++ 10 ∷ []
  pub one : IsOneLine text

-- the line is a request to the session, and the text is the answer to it
abbrev pub IsAnswered : Session → List ℕ → List ℕ → Session → Type 0
IsAnswered old line text new = (request : Request) × IsRequest line request × IsAnswerTo old request text new

-- a line that isn't answered by what it asks can't be read, and leaves all as it was, or its call isn't made or isn't answered
abbrev pub Refuses : Session → List ℕ → Session → LineFault → Type 0
Refuses old line new f =
    (IsUnread line f × IsSame old new) ⊎ ((requested : Request) × IsRequest line requested × Leaves old requested new f)
