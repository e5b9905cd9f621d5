-- Fault: the JSON text of why a line isn't answered by what it asks for.
use Rattle.std.specs.Prelude.{◌≡◌, ◌⊎◌, ℕ, Bool, true, false, IsTrue, List, [], ◌∷◌, ◌++◌, codes, string_bytes}
use Rattle.json.specs.Print.{print}
use Rattle.json.specs.Token.{Token}
use Rattle.am_json.specs.declared.fault.FaultKind.{FaultKind}
use Rattle.am_json.specs.declared.fault.FaultKind.TheVariants as refusal
use Rattle.am_json.specs.declared.fault.InputFault.{InputFault}
use Rattle.am_json.specs.declared.fault.InputFault.TheVariants as input
use Rattle.am_json.specs.declared.fault.ParseFault.{ParseFault}
use Rattle.am_json.specs.declared.fault.ParseFault.TheVariants as parse
use Rattle.am_model.specs.declared.fault.Fault.{Fault}
use Rattle.am_model.specs.declared.fault.Fault.TheVariants as board
use Rattle.am_model.specs.declared.fault.LoadFault.{LoadFault}
use Rattle.am_model.specs.declared.fault.LoadFault.TheVariants as load
use Rattle.am_model.specs.declared.fault.NoteFault.{NoteFault}
use Rattle.am_model.specs.declared.fault.NoteFault.TheVariants as note
use Rattle.am_model.specs.declared.fault.ReportFault.{ReportFault}
use Rattle.am_model.specs.declared.fault.ReportFault.TheVariants as report
use Rattle.am_protocol.specs.declared.fault.LineFault.{LineFault}
use Rattle.am_protocol.specs.declared.fault.LineFault.TheVariants as fault
use Rattle.am_protocol.specs.Answer.{number_member, text_member}
use Rattle.am_protocol.specs.Lines.{IsOneLine}
use Rattle.am_protocol.specs.Reply.{named}
use Rattle.am_protocol.specs.Wanted.{refusal_message}

-- the kind of a refused value, as the readers of files name it
abbrev pub refusal_kind : FaultKind → List ℕ
refusal_kind refusal.Missing = codes "missing"
refusal_kind refusal.WrongType = codes "kind"
refusal_kind refusal.BadValue = codes "value"
refusal_kind refusal.Unknown = codes "unknown"
refusal_kind refusal.Full = codes "full"
refusal_kind refusal.Unsupported = codes "unsupported"

-- where in the line a fault is, as a JSON pointer
abbrev pub pointer_of : LineFault → List ℕ
pointer_of (fault.NotJson column) = []
pointer_of fault.TooLong = []
pointer_of fault.NoMemory = []
pointer_of fault.Untold = []
pointer_of fault.Spent = []
pointer_of (fault.Refused pointer kind) = string_bytes pointer
pointer_of (fault.NotMade pointer kind message) = pointer.now

-- the kind of a fault, for programs
abbrev pub kind_of : LineFault → List ℕ
kind_of (fault.NotJson column) = codes "json"
kind_of fault.TooLong = codes "length"
kind_of fault.NoMemory = codes "memory"
kind_of fault.Untold = codes "untold"
kind_of fault.Spent = codes "NotOpen"
kind_of (fault.Refused pointer kind) = refusal_kind kind
kind_of (fault.NotMade pointer kind message) = kind.now

-- the message of a fault, for people
abbrev pub message_of : LineFault → List ℕ
message_of (fault.NotJson column) = codes "the line is no JSON text in UTF-8, or nests too deep"
message_of fault.TooLong = codes "the line has more than 67,108,864 bytes"
message_of fault.NoMemory = codes "out of memory"
message_of fault.Untold = codes "the call was made, and there was no memory to write its answer"
message_of fault.Spent = codes "no open flush has this ticket"
message_of (fault.Refused pointer kind) = refusal_message (string_bytes pointer) kind
message_of (fault.NotMade pointer kind message) = message.now

-- the column of what isn't JSON
abbrev pub column_member : LineFault → List Token
column_member (fault.NotJson column) = number_member (codes "column") column
column_member fault.TooLong = []
column_member fault.NoMemory = []
column_member fault.Untold = []
column_member fault.Spent = []
column_member (fault.Refused pointer kind) = []
column_member (fault.NotMade pointer kind message) = []

-- a fault: its words at its pointer
abbrev pub fault_tokens : LineFault → List Token
fault_tokens f =
    named (codes "error")
    (text_member (codes "pointer") (pointer_of f) ++ text_member (codes "kind") (kind_of f) ++ column_member f
    ++ text_member (codes "message") (message_of f))

-- the line that says a fault
abbrev pub fault_line : LineFault → List ℕ
fault_line f = print (fault_tokens f) ++ 10 ∷ []

-- the fault of a line that is no JSON
abbrev pub IsOfParse : ParseFault → LineFault → Type 0
IsOfParse (parse.NotJson line column) f = f ≡ fault.NotJson column
IsOfParse parse.NoMemory f = f ≡ fault.NoMemory

-- the fault of a line whose value is refused
abbrev pub IsOfInput : InputFault → LineFault → Type 0
IsOfInput (input.Refused pointer kind) f = f ≡ fault.Refused pointer kind
IsOfInput input.NoMemory f = f ≡ fault.NoMemory

-- whether a line that is answered by this fault has changed nothing
abbrev pub changes_nothing : LineFault → Bool
changes_nothing (fault.NotJson column) = true
changes_nothing fault.TooLong = true
changes_nothing fault.NoMemory = true
changes_nothing fault.Untold = false
changes_nothing fault.Spent = false
changes_nothing (fault.Refused pointer kind) = true
changes_nothing (fault.NotMade pointer kind message) = true

-- a call isn't made, for memory or because the board refuses it
abbrev pub IsUnmade : LineFault → Type 0
IsUnmade (fault.NotJson column) = ⊥
IsUnmade fault.TooLong = ⊥
IsUnmade fault.NoMemory = Unit {0}
IsUnmade fault.Untold = ⊥
IsUnmade fault.Spent = ⊥
IsUnmade (fault.Refused pointer kind) = ⊥
IsUnmade (fault.NotMade pointer kind message) = Unit {0}

-- the text is one line, which says the fault. Where memory for its words is refused it says that, if the line has changed nothing
abbrev pub AnswersFault : LineFault → List ℕ → Type 0
AnswersFault f text =
    IsOneLine text × ((text ≡ fault_line f) ⊎ (IsTrue (changes_nothing f) × (text ≡ fault_line fault.NoMemory)))

-- a call isn't made, for what has this kind at this pointer
abbrev pub IsRefusedAs : LineFault → List ℕ → List ℕ → Type 0
IsRefusedAs (fault.NotJson column) pointer kind = ⊥
IsRefusedAs fault.TooLong pointer kind = ⊥
IsRefusedAs fault.NoMemory pointer kind = ⊥
IsRefusedAs fault.Untold pointer kind = ⊥
IsRefusedAs fault.Spent pointer kind = ⊥
IsRefusedAs (fault.Refused at what) pointer kind = ⊥
IsRefusedAs (fault.NotMade at what message) pointer kind = (at.now ≡ pointer) × (what.now ≡ kind)

-- the fault of a call, at its pointer, that the board refuses
abbrev pub IsOfBoard : List ℕ → Fault → LineFault → Type 0
IsOfBoard pointer board.NoMemory f = f ≡ fault.NoMemory
IsOfBoard pointer board.TooManyAlerts f = IsRefusedAs f pointer (codes "TooManyNames")
IsOfBoard pointer board.TooManyGroups f = IsRefusedAs f pointer (codes "TooManyGroups")
IsOfBoard pointer board.TooManySilences f = IsRefusedAs f pointer (codes "TooManySilences")
IsOfBoard pointer board.TooManyOpen f = IsRefusedAs f pointer (codes "TooManyOpen")
IsOfBoard pointer board.HistoryFull f = IsRefusedAs f pointer (codes "HistoryFull")

-- the fault of a note that the board refuses
abbrev pub IsOfNote : NoteFault → LineFault → Type 0
IsOfNote note.NoMemory f = f ≡ fault.NoMemory
IsOfNote note.HistoryFull f = IsRefusedAs f (codes "/note") (codes "HistoryFull")
IsOfNote note.Foreign f = IsRefusedAs f (codes "/note/ticket") (codes "NotOpen")
IsOfNote note.NotOpen f = IsRefusedAs f (codes "/note/ticket") (codes "NotOpen")
IsOfNote note.NotReady f = IsRefusedAs f (codes "/note/integration") (codes "NotReady")
IsOfNote note.Already f = IsRefusedAs f (codes "/note/integration") (codes "Already")

-- the fault of a load that the board refuses
abbrev pub IsOfLoad : LoadFault → LineFault → Type 0
IsOfLoad load.NoMemory f = f ≡ fault.NoMemory
IsOfLoad load.HistoryFull f = IsRefusedAs f (codes "/load") (codes "HistoryFull")
IsOfLoad load.NoIntegration f = IsRefusedAs f (codes "/load/row") (codes "NoIntegration")
IsOfLoad load.Unordered f = IsRefusedAs f (codes "/load/row") (codes "Unordered")
IsOfLoad load.Ahead f = IsRefusedAs f (codes "/load/row/moment") (codes "Ahead")

-- the fault of a report that isn't recorded
abbrev pub IsOfReport : ReportFault → LineFault → Type 0
IsOfReport report.Stranger f = IsRefusedAs f (codes "/report/integration") (codes "Stranger")
IsOfReport report.Twice f = IsRefusedAs f (codes "/report/integration") (codes "Twice")
