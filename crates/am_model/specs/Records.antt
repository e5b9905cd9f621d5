-- Records: the call and the reply that each keeps.
use Rattle.std.specs.Prelude.{◌≡◌, ℕ, List, Some, slice_get}
use Rattle.am_mute.specs.Silence.{SilenceData}
use Rattle.am_model.specs.declared.record.Call.{Call}
use Rattle.am_model.specs.declared.record.Call.TheVariants.{Insert, Silence, Begin, Finish, Maintain, RemoveEmptyGroups, Forget, Load, Note}
use Rattle.am_model.specs.declared.record.Record.{Record}
use Rattle.am_model.specs.declared.group.GroupName.{GroupName}
use Rattle.am_model.specs.declared.record.Reply.{Reply}
use Rattle.am_model.specs.declared.record.Reply.TheVariants.{Flush, Noted}
use Rattle.am_model.specs.Notice.{NoticeData}
use Rattle.am_model.specs.Ticket.{TicketData, outcome_of}

-- the record of a pass's call
abbrev pub entry : ℕ → Call → Reply → Record
entry pass call reply = record { pass = pass; call = call; reply = reply }

-- the time that a call hands in
abbrev pub now_of : Call → ℕ
now_of (Insert now alert) = now
now_of (Silence now number matchers start end) = now
now_of (Begin now) = now
now_of (Finish now number outcomes) = now
now_of (Maintain now) = now
now_of (RemoveEmptyGroups now) = now
now_of (Forget now) = now
now_of (Load now row) = now
now_of (Note now number integration outcome) = now

-- the call of a silence
abbrev pub call_of_silence : ℕ → SilenceData → Call
call_of_silence now silence = Silence now silence.id silence.matchers silence.start silence.end

-- the reply to a begin that opened the flush of this number
abbrev pub flush_reply : ℕ → GroupName → ℕ → List NoticeData → Reply
flush_reply number group deadline notices = Flush group (record { number = number; deadline = deadline; notices = notices })

-- the record of a note of the notice at this index of a ticket
abbrev pub IsNoteOf : ℕ → ℕ → TicketData → ℕ → Record → Type 0
IsNoteOf pass now ticket index r =
    (notice : NoticeData) × (slice_get ticket.notices index ≡ Some notice)
    × (r ≡ entry pass (Note now ticket.number notice.integration (outcome_of ticket.outcomes notice.integration)) Noted)
