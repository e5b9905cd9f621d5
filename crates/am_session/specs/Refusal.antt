-- Refusal: why a session doesn't do what a line asks.
use Rattle.std.specs.Prelude.{◌≡◌, ◌≢◌, ◌⊎◌, ◌==◌, ℕ, List, [], Option, Some, None, codes}
use Rattle.std.specs.List.{position}
use Rattle.am_model.specs.Causes.{begin_cause, forget_cause, insert_cause, load_cause}
use Rattle.am_model.specs.Causes.{maintain_cause, note_cause, removal_cause, silence_cause}
use Rattle.am_model.specs.Config.{config_fault}
use Rattle.am_model.specs.declared.config.Config.{Config}
use Rattle.am_model.specs.declared.fault.Fault.{Fault}
use Rattle.am_model.specs.declared.fault.LoadFault.{LoadFault}
use Rattle.am_model.specs.declared.fault.NoteFault.{NoteFault}
use Rattle.am_model.specs.declared.fault.ReportFault.{ReportFault}
use Rattle.am_model.specs.declared.fault.TakeFault.TheVariants.{TooManyCalls}
use Rattle.am_model.specs.declared.views.RowView.{RowView}
use Rattle.am_model.specs.State.{time}
use Rattle.am_model.specs.Ticket.{TicketData, report_fault}
use Rattle.am_board.specs.History.{records_at, state_at, take_cause}
use Rattle.am_board.specs.Step.{IsAnswer, IsLoadAnswer, IsNoteAnswer}
use Rattle.am_protocol.specs.declared.fault.LineFault.{LineFault}
use Rattle.am_protocol.specs.declared.fault.LineFault.TheVariants as fault
use Rattle.am_protocol.specs.declared.request.Loading.{Loading}
use Rattle.am_protocol.specs.declared.request.Noting.{Noting}
use Rattle.am_protocol.specs.declared.request.Reporting.{Reporting}
use Rattle.am_protocol.specs.declared.request.Request.{Request}
use Rattle.am_protocol.specs.declared.request.Request.TheVariants as request
use Rattle.am_protocol.specs.Fault.{IsOfBoard, IsOfLoad, IsOfNote, IsOfReport, IsRefusedAs}
use Rattle.am_session.specs.Row.{row_named}
use Rattle.am_session.specs.Ticket.{IsFirst, IsNoticeAt, report_on}
use Rattle.am_session.specs.declared.session.Session.{Session}

-- no memory
abbrev pub LacksMemory : LineFault → Type 0
LacksMemory f = f ≡ fault.NoMemory

-- the board answers a call with a fault, as it does where this is the first cause other than memory, and the line's fault says it
abbrev pub AnswersCause : List ℕ → Option Fault → LineFault → Type 0
AnswersCause pointer cause f = (answer : Fault) × IsAnswer cause answer × IsOfBoard pointer answer f

-- the session has no ticket of this number, and the fault says it at this index
abbrev pub LacksTicket : Session → ℕ → List ℕ → LineFault → Type 0
LacksTicket s number pointer f =
    (position (λ t. t.number == number) s.tickets.items ≡ None) × IsRefusedAs f pointer (codes "NotOpen")

-- the ticket has a fault for the report
pub record IsReportRefused (s : Session) (x : Reporting) (f : LineFault) : Type 0 where
  pub index : ℕ
  pub ticket : TicketData
  pub at : IsFirst x.ticket s.tickets.items index ticket
  pub cause : ReportFault
  pub is : report_fault ticket (report_on ticket x.integration x.outcome) ≡ Some cause
  pub answered : IsOfReport cause f

-- why a report isn't recorded
abbrev pub IsCauseOfUnreported : Session → Reporting → LineFault → Type 0
IsCauseOfUnreported s x f = LacksTicket s x.ticket (codes "/report/ticket") f ⊎ IsReportRefused s x f

-- the ticket has no notice for the integration
pub record LacksNotice (s : Session) (x : Noting) (f : LineFault) : Type 0 where
  pub index : ℕ
  pub ticket : TicketData
  pub at : IsFirst x.ticket s.tickets.items index ticket
  pub none : position (λ n. n.integration == x.integration) ticket.notices ≡ None
  pub answered : IsRefusedAs f (codes "/note/integration") (codes "NotReady")

-- the board doesn't note the notice
pub record IsNoteRefused (s : Session) (x : Noting) (f : LineFault) : Type 0 where
  pub index : ℕ
  pub ticket : TicketData
  pub at : IsFirst x.ticket s.tickets.items index ticket
  pub notice : ℕ
  pub noticed : IsNoticeAt x.integration ticket.notices notice
  pub answer : NoteFault
  pub is : IsNoteAnswer (note_cause s.board.config s.board.id (records_at s.board) (state_at s.board) ticket notice) answer
  pub answered : IsOfNote answer f

-- why a note isn't made
abbrev pub IsCauseOfUnnoted : Session → Noting → LineFault → Type 0
IsCauseOfUnnoted s x f = LacksTicket s x.ticket (codes "/note/ticket") f ⊎ LacksNotice s x f ⊎ IsNoteRefused s x f

-- there is no row as it is named
abbrev pub LacksRow : Session → Loading → LineFault → Type 0
LacksRow s x f = (row_named s.board.config x.row ≡ None) × IsRefusedAs f (codes "/load/row") (codes "NoIntegration")

-- the board doesn't load the row
pub record IsLoadRefused (s : Session) (x : Loading) (f : LineFault) : Type 0 where
  pub row : RowView
  pub named : row_named s.board.config x.row ≡ Some row
  pub answer : LoadFault
  pub is :
      IsLoadAnswer (load_cause s.board.config (records_at s.board) (state_at s.board) (time (state_at s.board) x.now) row) answer
  pub answered : IsOfLoad answer f

-- why a row isn't loaded
abbrev pub IsCauseOfUnloaded : Session → Loading → LineFault → Type 0
IsCauseOfUnloaded s x f = LacksMemory f ⊎ LacksRow s x f ⊎ IsLoadRefused s x f

-- why a begin isn't made; memory for its ticket comes first
abbrev pub IsCauseOfUnbegun : Session → ℕ → LineFault → Type 0
IsCauseOfUnbegun s now f =
    LacksMemory f
    ⊎ AnswersCause (codes "/begin")
    (begin_cause s.board.config (records_at s.board) (state_at s.board) (time (state_at s.board) now)) f

-- why the records aren't handed out
abbrev pub IsCauseOfUntaken : Session → LineFault → Type 0
IsCauseOfUntaken s f =
    LacksMemory f
    ⊎ ((take_cause s.board ≡ Some TooManyCalls) × IsRefusedAs f (codes "/take_history") (codes "TooManyCalls"))

-- why no board is made: no board may have the configuration, which a line never has
abbrev pub IsCauseOfUnopened : Config → LineFault → Type 0
IsCauseOfUnopened config f = LacksMemory f ⊎ ((config_fault config ≢ None) × IsRefusedAs f [] (codes "value"))

-- why what is asked isn't done. A view and a check only lack memory. So do several inserts: what one of them is refused for is in their
-- answer
abbrev pub IsCauseOf : Session → Request → LineFault → Type 0
IsCauseOf s (request.Open x) f = IsCauseOfUnopened x.config f
IsCauseOf s (request.Insert x) f =
    AnswersCause (codes "/insert") (insert_cause s.board.config (records_at s.board) (state_at s.board) x.alert) f
IsCauseOf s (request.Inserts xs) f = LacksMemory f
IsCauseOf s (request.Silence x) f =
    AnswersCause (codes "/silence") (silence_cause s.board.config (records_at s.board) (state_at s.board) x.silence) f
IsCauseOf s (request.Begin x) f = IsCauseOfUnbegun s x.now f
IsCauseOf s (request.Report x) f = IsCauseOfUnreported s x f
IsCauseOf s (request.Note x) f = IsCauseOfUnnoted s x f
IsCauseOf s (request.Finish x) f = LacksTicket s x.ticket (codes "/finish/ticket") f
IsCauseOf s (request.Maintain x) f =
    AnswersCause (codes "/maintain") (maintain_cause s.board.config (records_at s.board) (state_at s.board)) f
IsCauseOf s (request.RemoveEmptyGroups x) f =
    AnswersCause (codes "/remove_empty_groups") (removal_cause s.board.config (records_at s.board) (state_at s.board)) f
IsCauseOf s (request.Forget x) f =
    AnswersCause (codes "/forget") (forget_cause s.board.config (records_at s.board) (state_at s.board)) f
IsCauseOf s (request.Load x) f = IsCauseOfUnloaded s x f
IsCauseOf s request.NextDue f = LacksMemory f
IsCauseOf s (request.Outlook x) f = LacksMemory f
IsCauseOf s (request.Status x) f = LacksMemory f
IsCauseOf s request.Rows f = LacksMemory f
IsCauseOf s request.Groups f = LacksMemory f
IsCauseOf s request.Summary f = LacksMemory f
IsCauseOf s request.Tickets f = LacksMemory f
IsCauseOf s request.TakeHistory f = IsCauseOfUntaken s f
IsCauseOf s (request.Check x) f = LacksMemory f
