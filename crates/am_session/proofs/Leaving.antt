-- What is left by a line that isn't answered by what it asks.
use Rattle.std.proofs.Common.{◌≡◌, ◌≢◌, ◌∙◌, ◌==◌, inl, inr, [], ℕ, List, Option, option_map, Some, None, Result, Ok, Err, ap, codes, refl, subst, sym}
use Rattle.std.specs.List.{position}
use Rattle.std.specs.Result.{IfErr, IsErrAnd}
use Rattle.json.specs.Token.{Token}
use Rattle.am_model.specs.Causes.{note_cause}
use Rattle.am_alerts.specs.Fault.{ok_unless}
use Rattle.am_model.specs.declared.config.Config.{Config}
use Rattle.am_model.specs.declared.config.ConfigFault.{ConfigFault}
use Rattle.am_model.specs.declared.fault.BoardFault.{BoardFault}
use Rattle.am_model.specs.declared.fault.BoardFault.TheVariants as opening
use Rattle.am_model.specs.declared.fault.Fault.{Fault}
use Rattle.am_model.specs.declared.fault.Fault.TheVariants as board
use Rattle.am_model.specs.declared.fault.LoadFault.{LoadFault}
use Rattle.am_model.specs.declared.fault.LoadFault.TheVariants as load
use Rattle.am_model.specs.declared.fault.NoteFault.{NoteFault}
use Rattle.am_model.specs.declared.fault.NoteFault.TheVariants as note
use Rattle.am_model.specs.declared.fault.ReportFault.{ReportFault}
use Rattle.am_model.specs.declared.fault.ReportFault.TheVariants as report
use Rattle.am_model.specs.declared.fault.TakeFault.{TakeFault}
use Rattle.am_model.specs.declared.fault.TakeFault.TheVariants as taking
use Rattle.am_model.specs.declared.record.Call.{Call}
use Rattle.am_model.specs.declared.record.Reply.{Reply}
use Rattle.am_model.specs.declared.views.RowView.{RowView}
use Rattle.am_model.specs.Records.{entry}
use Rattle.am_model.specs.Ticket.{TicketData}
use Rattle.am_board.specs.History.{BoardData, IsReplyAt, records_at, state_at, with_record}
use Rattle.am_board.specs.Step.{IsNoteAnswer, IsTakeAnswer}
use Rattle.am_protocol.specs.declared.fault.LineFault.{LineFault}
use Rattle.am_protocol.specs.declared.fault.LineFault.TheVariants as fault
use Rattle.am_protocol.specs.declared.request.Loading.{Loading}
use Rattle.am_protocol.specs.declared.request.Noting.{Noting}
use Rattle.am_protocol.specs.declared.opening.Opening.{Opening}
use Rattle.am_protocol.specs.declared.request.Reporting.{Reporting}
use Rattle.am_protocol.specs.declared.request.Request.{Request}
use Rattle.am_protocol.specs.declared.request.Request.TheVariants as request
use Rattle.am_protocol.specs.Fault.{IsOfBoard, IsOfLoad, IsOfNote, IsOfReport, IsRefusedAs, IsUnmade}
use Rattle.am_protocol.specs.Reply.{reply_tokens}
use Rattle.am_session.specs.Refusal.{IsNoteRefused, IsReportRefused, IsCauseOf, IsCauseOfUnopened, LacksMemory, LacksRow, LacksTicket}
use Rattle.am_session.specs.Row.{row_named}
use Rattle.am_session.specs.Session.{Does, HasDone, IsSame, Leaves, Makes}
use Rattle.am_session.specs.Ticket.{HasFaultAt, IsFirst}
use Rattle.am_session.specs.declared.session.Session.{Session}
use Rattle.am_session.proofs.Making.{first_ticket}

-- what follows from what is so of a fault
pub if_err_weaker : {T E : Type 0} (P Q : E → Type 0) (r : Result T E) → ((e : E) → P e → Q e) → IfErr r P → IfErr r Q
if_err_weaker P Q (Ok x) weaker holds = tt
if_err_weaker P Q (Err e) weaker holds = weaker e holds

refused_unmade : (f : LineFault) (pointer kind : List ℕ) → IsRefusedAs f pointer kind → IsUnmade f
refused_unmade (fault.NotJson column) pointer kind refused = absurd refused
refused_unmade fault.TooLong pointer kind refused = absurd refused
refused_unmade fault.NoMemory pointer kind refused = tt
refused_unmade fault.Untold pointer kind refused = absurd refused
refused_unmade fault.Spent pointer kind refused = absurd refused
refused_unmade (fault.Refused at what) pointer kind refused = absurd refused
refused_unmade (fault.NotMade at what message) pointer kind refused = tt

memory_unmade : (f : LineFault) → f ≡ fault.NoMemory → IsUnmade f
memory_unmade f is = subst IsUnmade (sym is) tt

-- a call that isn't made leaves all as it was, and its fault says why
pub unmade_leaves : (f : LineFault) (old new : Session) (requested : Request) → IsUnmade f → IsCauseOf old requested f → IsSame old new → Leaves old requested new f
unmade_leaves (fault.NotJson column) old new requested unmade why same = absurd unmade
unmade_leaves fault.TooLong old new requested unmade why same = absurd unmade
unmade_leaves fault.NoMemory old new requested unmade why same = (same, why)
unmade_leaves fault.Untold old new requested unmade why same = absurd unmade
unmade_leaves fault.Spent old new requested unmade why same = absurd unmade
unmade_leaves (fault.Refused pointer kind) old new requested unmade why same = absurd unmade
unmade_leaves (fault.NotMade pointer kind message) old new requested unmade why same = (same, why)

-- without memory
pub memory_leaves : (f : LineFault) (old new : Session) (requested : Request) → f ≡ fault.NoMemory → IsCauseOf old requested f → IsSame old new → Leaves old requested new f
memory_leaves f old new requested is why same = unmade_leaves f old new requested (memory_unmade f is) why same

-- where a view lacks memory
pub memory_all : {T : Type 0} (r : Result T LineFault) (old new : Session) (requested : Request)
    → IfErr r (λ f. f ≡ fault.NoMemory) → ((f : LineFault) → LacksMemory f → IsCauseOf old requested f) → IsSame old new → IfErr r (Leaves old requested new)
memory_all (Ok x) old new requested is why same = tt
memory_all (Err f) old new requested is why same = memory_leaves f old new requested is (why f is) same

-- where the call was made, and its answer isn't answered
pub untold_all : {T : Type 0} (r : Result T LineFault) (old new : Session) (requested : Request)
    → IfErr r (λ f. f ≡ fault.Untold) → requested ≢ request.TakeHistory → HasDone old requested new → IfErr r (Leaves old requested new)
untold_all (Ok x) old new requested is other done = tt
untold_all (Err f) old new requested is other done = subst (λ (g : LineFault). Leaves old requested new g) (sym is) (done, other)

-- a call that the board has made
pub made_all : {T : Type 0} (r : Result T LineFault) (old new : Session) (requested : Request) (call : Call) (reply : Reply)
    → ((tokens : List Token) → Makes old new call [] tokens → Does old requested new [] tokens) → requested ≢ request.TakeHistory
    → IsReplyAt old.board call reply → new.board ≡ with_record old.board (entry 0 call reply)
    → IfErr r (λ f. f ≡ fault.Untold) → IfErr r (Leaves old requested new)
made_all r old new requested call reply does other due recorded is =
    let tokens = reply_tokens old.board.config reply in
    untold_all r old new requested is other (tokens, does tokens (reply, record { due = due; recorded = recorded; answered = refl }))

-- a call that the board refuses isn't made
pub board_unmade : (pointer : List ℕ) (cause : Fault) (f : LineFault) → IsOfBoard pointer cause f → IsUnmade f
board_unmade pointer board.NoMemory f is = memory_unmade f is
board_unmade pointer board.TooManyAlerts f is = refused_unmade f pointer (codes "TooManyNames") is
board_unmade pointer board.TooManyGroups f is = refused_unmade f pointer (codes "TooManyGroups") is
board_unmade pointer board.TooManySilences f is = refused_unmade f pointer (codes "TooManySilences") is
board_unmade pointer board.TooManyOpen f is = refused_unmade f pointer (codes "TooManyOpen") is
board_unmade pointer board.HistoryFull f is = refused_unmade f pointer (codes "HistoryFull") is

pub note_unmade : (cause : NoteFault) (f : LineFault) → IsOfNote cause f → IsUnmade f
note_unmade note.NoMemory f is = memory_unmade f is
note_unmade note.HistoryFull f is = refused_unmade f (codes "/note") (codes "HistoryFull") is
note_unmade note.Foreign f is = refused_unmade f (codes "/note/ticket") (codes "NotOpen") is
note_unmade note.NotOpen f is = refused_unmade f (codes "/note/ticket") (codes "NotOpen") is
note_unmade note.NotReady f is = refused_unmade f (codes "/note/integration") (codes "NotReady") is
note_unmade note.Already f is = refused_unmade f (codes "/note/integration") (codes "Already") is

pub load_unmade : (cause : LoadFault) (f : LineFault) → IsOfLoad cause f → IsUnmade f
load_unmade load.NoMemory f is = memory_unmade f is
load_unmade load.HistoryFull f is = refused_unmade f (codes "/load") (codes "HistoryFull") is
load_unmade load.NoIntegration f is = refused_unmade f (codes "/load/row") (codes "NoIntegration") is
load_unmade load.Unordered f is = refused_unmade f (codes "/load/row") (codes "Unordered") is
load_unmade load.Ahead f is = refused_unmade f (codes "/load/row/moment") (codes "Ahead") is

pub report_unmade : (cause : ReportFault) (f : LineFault) → IsOfReport cause f → IsUnmade f
report_unmade report.Stranger f is = refused_unmade f (codes "/report/integration") (codes "Stranger") is
report_unmade report.Twice f is = refused_unmade f (codes "/report/integration") (codes "Twice") is

-- the session has no such ticket
pub not_open_leaves : (f : LineFault) (old new : Session) (requested : Request) (pointer : List ℕ)
    → IsRefusedAs f pointer (codes "NotOpen") → IsCauseOf old requested f → IsSame old new → Leaves old requested new f
not_open_leaves f old new requested pointer is why same = unmade_leaves f old new requested (refused_unmade f pointer (codes "NotOpen") is) why same

pub lacks_ticket : (s : Session) (seen : List TicketData) (number : ℕ) (pointer : List ℕ) (f : LineFault)
    → seen ≡ s.tickets.items → None ≡ position (λ t. t.number == number) seen → IsRefusedAs f pointer (codes "NotOpen") → LacksTicket s number pointer f
lacks_ticket s seen number pointer f same none is =
    (sym (none ∙ ap (λ (ts : List TicketData). position (λ t. t.number == number) ts) same), is)

-- a report that the ticket has a fault for
pub report_refused : (s : Session) (x : Reporting) (pointer : ℕ) (cause : ReportFault) (f : LineFault) (seen : List TicketData)
    → seen ≡ s.tickets.items → Some pointer ≡ position (λ t. t.number == x.ticket) seen
    → HasFaultAt s.tickets.items pointer x.integration x.outcome cause → IsOfReport cause f → IsReportRefused s x f
report_refused s x pointer cause f seen same first at is =
    record {
      index = pointer;
      ticket = at.0;
      at = first_ticket x.ticket s.tickets.items seen pointer at.0 same first at.1;
      cause = cause;
      is = at.2;
      answered = is;
    }

-- a note that the board refuses, which was handed the ticket that was found
pub note_refused : (s : Session) (x : Noting) (pointer : ℕ) (ticket noted : TicketData) (notice : ℕ) (answer : NoteFault) (f : LineFault)
    → IsFirst x.ticket s.tickets.items pointer ticket → Some notice ≡ position (λ n. n.integration == x.integration) ticket.notices
    → noted ≡ ticket
    → IsNoteAnswer (note_cause s.board.config s.board.id (records_at s.board) (state_at s.board) noted notice) answer
    → IsOfNote answer f → IsNoteRefused s x f
note_refused s x pointer ticket noted notice answer f at noticed same is answered =
    record {
      index = pointer;
      ticket = ticket;
      at = at;
      notice = notice;
      noticed = sym noticed;
      answer = answer;
      is = subst (λ (t : TicketData). IsNoteAnswer (note_cause s.board.config s.board.id (records_at s.board) (state_at s.board) t notice) answer) same is;
      answered = answered;
    }

-- a row that isn't there
pub lacks_row : (s : Session) (x : Loading) (config : Config) (found : Option RowView) (f : LineFault)
    → config ≡ s.board.config → found ≡ row_named config x.row → found ≡ None → IsOfLoad load.NoIntegration f → LacksRow s x f
lacks_row s x config found f same named none is = (ap (λ (c : Config). row_named c x.row) (sym same) ∙ sym named ∙ none, is)

-- the row that was found
pub row_found : (s : Session) (x : Loading) (config : Config) (found : Option RowView) (row : RowView)
    → config ≡ s.board.config → found ≡ row_named config x.row → found ≡ Some row → row_named s.board.config x.row ≡ Some row
row_found s x config found row same named is = ap (λ (c : Config). row_named c x.row) (sym same) ∙ sym named ∙ is

-- a board that isn't opened
unopened_unmade : (f : LineFault) (config : Config) → IsCauseOfUnopened config f → IsUnmade f
unopened_unmade f config (inl memory) = memory_unmade f memory
unopened_unmade f config (inr faulty) = refused_unmade f [] (codes "value") faulty.1

-- its fault is passed on
pub unopened_passed : {T : Type 0} (r : Result T LineFault) (f : LineFault) (old : Session) (x : Opening)
    → IsErrAnd r (λ g. g ≡ f) → IsCauseOfUnopened x.config f → IfErr r (Leaves old (request.Open x) old)
unopened_passed (Ok made) f old x is why = tt
unopened_passed (Err g) f old x is why =
    let here = subst (IsCauseOfUnopened x.config) (sym is) why in
    unmade_leaves g old old (request.Open x) (unopened_unmade g x.config here) here (refl, refl)

-- the records aren't handed out, and not for memory
pub untaken : (cause : Option TakeFault) (fault : TakeFault) → fault ≡ taking.TooManyCalls → IsTakeAnswer cause fault
    → cause ≡ Some taking.TooManyCalls
untaken None fault is answer = absurd (cc)
untaken (Some cause) fault is answer = ap (λ (c : TakeFault). Some c) (sym answer ∙ is)

-- a board refuses a configuration that has a fault
pub faulty : (cause : Option ConfigFault) (fault : BoardFault) (board : BoardData)
    → Err fault ≡ ok_unless (option_map opening.BadConfig cause) board → cause ≢ None
faulty None fault board e = λ is. absurd (cc)
faulty (Some known) fault board e = λ is. absurd (cc)
