-- Call: the names of the calls, and the form of a line.
use Rattle.std.specs.Prelude.{ℕ, List, Option, Some, None, codes, find, if◌then◌else◌, is_some}
use Rattle.std.specs.Str.{bytes_eq}
use Rattle.serde_json.specs.Data.{Data, Members, no_members, member}
use Rattle.serde_json.specs.Find.{as_object}
use Rattle.am_json.specs.declared.fault.FaultKind.{FaultKind}
use Rattle.am_json.specs.declared.fault.FaultKind.TheVariants as refusal
use Rattle.am_protocol.specs.declared.call.CallName.{CallName}
use Rattle.am_protocol.specs.declared.call.CallName.TheVariants as call
use Rattle.am_protocol.specs.declared.call.TheConstants.{CALLS}

-- the name of a call in a line
abbrev pub call_text : CallName → List ℕ
call_text call.Config = codes "config"
call_text call.Alertmanager = codes "alertmanager"
call_text call.Open = codes "open"
call_text call.Insert = codes "insert"
call_text call.Inserts = codes "inserts"
call_text call.Silence = codes "silence"
call_text call.Begin = codes "begin"
call_text call.Report = codes "report"
call_text call.Note = codes "note"
call_text call.Finish = codes "finish"
call_text call.Maintain = codes "maintain"
call_text call.RemoveEmptyGroups = codes "remove_empty_groups"
call_text call.Forget = codes "forget"
call_text call.Load = codes "load"
call_text call.NextDue = codes "next_due"
call_text call.Outlook = codes "outlook"
call_text call.Status = codes "status"
call_text call.Rows = codes "rows"
call_text call.Groups = codes "groups"
call_text call.Summary = codes "summary"
call_text call.Tickets = codes "tickets"
call_text call.TakeHistory = codes "take_history"
call_text call.Check = codes "check"

-- the call of a name
abbrev pub call_named : List ℕ → Option CallName
call_named name = find (λ c. bytes_eq (call_text c) name) CALLS

-- why the members of a line aren't one
abbrev pub count_fault : Members → Option FaultKind
count_fault no_members = Some refusal.Missing
count_fault (member name value no_members) = None
count_fault (member name value (member next more rest)) = Some refusal.BadValue

-- why the members of a line aren't one with the name of a call
abbrev pub members_fault : Members → Option FaultKind
members_fault no_members = Some refusal.Missing
members_fault (member name value no_members) = if is_some (call_named name) then None else Some refusal.Unknown
members_fault (member name value (member next more rest)) = Some refusal.BadValue

abbrev pub object_fault : Option Members → Option FaultKind
object_fault None = Some refusal.WrongType
object_fault (Some members) = members_fault members

-- why a line isn't an object with one member, which has the name of a call
abbrev pub form_fault : Data → Option FaultKind
form_fault line = object_fault (as_object line)
