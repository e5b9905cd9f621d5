-- Steps: what each step of a rehearsal does.
use Rattle.std.specs.Prelude.{◌≡◌, ℕ, Bool, true, false, List, [], ◌∷◌, ◌++◌, length, remove, slice_get, slice_set}
use Rattle.std.specs.Prelude.{Option, Some, None, is_none, is_some}
use Rattle.std.specs.Prelude.{if◌then◌else◌}
use Rattle.std.specs.Option.{IsSomeAnd, option_map_or}
use Rattle.am_model.specs.declared.fault.Fault.{Fault}
use Rattle.am_model.specs.declared.fault.Fault.TheVariants as fault
use Rattle.am_model.specs.declared.group.GroupName.{GroupName}
use Rattle.am_model.specs.declared.notice.Report.{Report}
use Rattle.am_model.specs.declared.record.Call.{Call}
use Rattle.am_model.specs.declared.record.Call.TheVariants as call
use Rattle.am_model.specs.declared.record.Opened.{Opened}
use Rattle.am_model.specs.declared.record.Reply.{Reply}
use Rattle.am_model.specs.declared.record.Reply.TheVariants as reply
use Rattle.am_model.specs.Begin.{begun}
use Rattle.am_model.specs.Causes.{begin_cause, note_cause}
use Rattle.am_model.specs.Configured.{route_of}
use Rattle.am_model.specs.Finish.{is_delivered}
use Rattle.am_model.specs.Records.{entry}
use Rattle.am_model.specs.Replay.{reply as reply_to}
use Rattle.am_model.specs.State.{time}
use Rattle.am_model.specs.Ticket.{TicketData, recorded, report_fault}
use Rattle.am_board.specs.History.{BoardData, records_at, state_at, with_record}
use Rattle.am_pool.specs.Sendings.{later, note_at}
use Rattle.am_pool.specs.declared.courier.Sent.{Sent as SentAttempt}
use Rattle.am_simulation.specs.Answers.{AreEndsOf, answer_of}
use Rattle.am_simulation.specs.EventOrder.{begin_indices}
use Rattle.am_simulation.specs.Next.{next}
use Rattle.am_simulation.specs.Planned.{call_of, refuses}
use Rattle.am_simulation.specs.Scene.{Scene, SendingData, Setting}
use Rattle.am_terms.specs.declared.event.Event.{Event}
use Rattle.am_terms.specs.declared.event.Event.TheVariants.{Begun, Sent}
use Rattle.am_simulation.specs.declared.next.End.{End}
use Rattle.am_simulation.specs.declared.next.Step.{Step}
use Rattle.am_simulation.specs.declared.next.Step.TheVariants as step
use Rattle.am_terms.specs.declared.rehearsal.TimedAction.{TimedAction}

-- a board after a call, with the reply that the definitions give; as it was, where they give none
abbrev pub with_call : BoardData → Call → BoardData
with_call b c = option_map_or (λ returned. with_record b (entry 0 c returned)) (reply_to b.config b.id (state_at b) c) b

-- a board after the note of the notice at an index of a ticket, if it takes the note
abbrev pub with_note : ℕ → TicketData → ℕ → BoardData → BoardData
with_note at t index b =
    if is_none (note_cause b.config b.id (records_at b) (state_at b) t index)
    then option_map_or (λ n. with_call b (note_at at t n)) (slice_get t.notices index) b
    else b

-- a ticket with a report more, if there is one and the ticket takes it
abbrev pub with_report : Option Report → TicketData → TicketData
with_report None t = t
with_report (Some r) t = if is_some (report_fault t r) then t else recorded t r

-- whether a sending that came to this end is a success: there was nothing to send, or it was delivered
abbrev pub is_success : Option Report → Bool
is_success None = true
is_success (Some r) = is_delivered (Some r.outcome)

-- the event of the end of a sending, whose flush this begin opened; none where there was nothing to send
abbrev pub sent_events : ℕ → Option Report → List Event
sent_events begin None = []
sent_events begin (Some r) = Sent begin r ∷ []

-- a flush in flight without the end at an index, which has come with this report
abbrev pub after_end_of : SendingData → ℕ → Option Report → SendingData
after_end_of s index report =
    record { ticket = with_report report s.ticket; begin = s.begin; ends = remove s.ends index }

-- after the end of a sending: its report is in the ticket and among the events, and a success is noted
abbrev pub after_end : Scene → ℕ → SendingData → ℕ → End → Scene
after_end c position s index e =
    record c {
      board = if is_success e.report then with_note e.at (with_report e.report s.ticket) e.index c.board else c.board;
      events = c.events ++ sent_events s.begin e.report;
      sendings = slice_set c.sendings position (after_end_of s index e.report);
      clock = e.at;
    }

-- after a finish: begins wait no more
abbrev pub after_finish : Scene → ℕ → SendingData → Scene
after_finish c position s =
    record c {
      board = with_call c.board (call.Finish c.clock s.ticket.number s.ticket.outcomes);
      sendings = remove c.sendings position;
      blocked = false;
    }

-- after a planned action
abbrev pub after_plan : Scene → TimedAction → List TimedAction → Scene
after_plan c p ps = record c { board = with_call c.board (call_of p.at p.act); plans = ps; clock = p.at }

-- after a maintenance
abbrev pub after_maintenance : Setting → Scene → ℕ → Scene
after_maintenance r c at = record c { board = with_call c.board (call.Maintain at); clock = at; maintenance = later at r.maintain }

-- after a removal of empty groups
abbrev pub after_removal : Scene → ℕ → Scene
after_removal c at = record c { board = with_call c.board (call.RemoveEmptyGroups at); clock = at }

-- after a begin that found no group due
abbrev pub after_nothing : Scene → ℕ → Scene
after_nothing c at = record c { board = with_record c.board (entry 0 (call.Begin at) reply.NothingDue); clock = at; begins = false }

-- after a begin that took a group
abbrev pub after_taking : Scene → ℕ → Reply → Scene
after_taking c at returned =
    record c {
      board = with_record c.board (entry 0 (call.Begin at) returned);
      events = c.events ++ Begun (length (begin_indices c.events)) ∷ [];
      clock = at;
      begins = true;
    }

-- after a begin that was refused since as many flushes are open as the limit allows
abbrev pub after_too_many : Scene → ℕ → Scene
after_too_many c at = record c { clock = at; begins = false; blocked = true }

-- with one flush more in flight
abbrev pub with_sending : SendingData → Scene → Scene
with_sending s c = record c { sendings = c.sendings ++ s ∷ [] }

-- the answers to the attempts for a group's receiver
abbrev pub answers_for : Setting → BoardData → GroupName → ℕ → ℕ → ℕ → ℕ → SentAttempt
answers_for r b group = answer_of r.span.cut r.outages (route_of b.config group).receiver

-- a flush of this ticket, which this begin opened at a time, is one more in flight, and each of its notices was sent from that time on
abbrev pub IsSendingAdded : Setting → ℕ → TicketData → ℕ → Scene → Scene → Type 0
IsSendingAdded r at ticket begin c d =
    (s : SendingData) × (s.ticket ≡ ticket) × (s.begin ≡ begin)
    × AreEndsOf (answers_for r c.board ticket.group) r.span.cut at 0 ticket.notices s.ends × (d ≡ with_sending s c)

-- the ticket of a flush that a board's begin opened
abbrev pub ticket_of : ℕ → GroupName → Opened → TicketData
ticket_of board_id group opened =
    record {
      board_id = board_id;
      number = opened.number;
      group = group;
      deadline = opened.deadline;
      notices = opened.notices;
      outcomes = [];
    }

-- what a begin does that gets this reply
abbrev pub IsReplied : Setting → Scene → ℕ → Scene → Reply → Type 0
IsReplied r c at d reply.NothingDue = d ≡ after_nothing c at
IsReplied r c at d (reply.Quiet group removed) = d ≡ after_taking c at (reply.Quiet group removed)
IsReplied r c at d (reply.Flush group opened) =
    IsSendingAdded r at (ticket_of c.board.id group opened) (length (begin_indices c.events))
    (after_taking c at (reply.Flush group opened)) d
IsReplied r c at d (reply.Inserted inserted) = ⊥
IsReplied r c at d (reply.Silenced silenced) = ⊥
IsReplied r c at d (reply.Finished finished) = ⊥
IsReplied r c at d (reply.Maintained maintained) = ⊥
IsReplied r c at d (reply.EmptyGroupsRemoved removed) = ⊥
IsReplied r c at d (reply.Forgotten forgotten) = ⊥
IsReplied r c at d (reply.Loaded loaded) = ⊥
IsReplied r c at d reply.Noted = ⊥

-- what a begin does that is refused for this cause, or for none
abbrev pub IsBegun : Setting → Scene → ℕ → Scene → Option Fault → Type 0
IsBegun r c at d None = let s = state_at c.board in IsReplied r c at d (begun c.board.config c.board.id s (time s at))
IsBegun r c at d (Some fault.TooManyOpen) = d ≡ after_too_many c at
IsBegun r c at d (Some fault.NoMemory) = ⊥
IsBegun r c at d (Some fault.TooManyAlerts) = ⊥
IsBegun r c at d (Some fault.TooManyGroups) = ⊥
IsBegun r c at d (Some fault.TooManySilences) = ⊥
IsBegun r c at d (Some fault.HistoryFull) = ⊥

-- the first of these plans is done, which the board doesn't refuse
abbrev pub IsPlanDone : Scene → Scene → List TimedAction → Type 0
IsPlanDone c d [] = ⊥
IsPlanDone c d (p ∷ ps) = (refuses c.board p.at p.act ≡ false) × (d ≡ after_plan c p ps)

-- a step at a time leads from one scene to another
abbrev pub IsDone : Setting → Scene → ℕ → Scene → Step → Type 0
IsDone r c at d (step.End position index) =
    IsSomeAnd (slice_get c.sendings position) (λ s. IsSomeAnd (slice_get s.ends index) (λ e. d ≡ after_end c position s index e))
IsDone r c at d (step.Finish position) = IsSomeAnd (slice_get c.sendings position) (λ s. d ≡ after_finish c position s)
IsDone r c at d step.Plan = IsPlanDone c d c.plans
IsDone r c at d step.Maintenance = d ≡ after_maintenance r c at
IsDone r c at d step.Removal = d ≡ after_removal c at
IsDone r c at d step.Begin =
    let s = state_at c.board in IsBegun r c at d (begin_cause c.board.config (records_at c.board) s (time s at))

-- the step that comes next leads from one scene to another
unfoldable pub Steps : Setting → Scene → Scene → Type 0
Steps r c d = IsSomeAnd (next r c) (λ n. IsDone r c n.at d n.what)
