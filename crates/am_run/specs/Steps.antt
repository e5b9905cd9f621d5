-- What the steps of a phase do to the main thread's pass.
use Rattle.std.specs.Prelude.{◌≡◌, ◌<◌, ◌≤◌, ◌||◌, ℕ, Bool, false, true, All}
use Rattle.std.specs.Prelude.{List, [], ◌∷◌, ◌++◌, length, map, slice_get, Some}
use Rattle.std.specs.List.{AllZip, filter, flat_map}
use mathlib.Core.List.{IsPrefix}
use Rattle.am_model.specs.Finish.{is_delivered}
use Rattle.am_model.specs.Notice.{NoticeData, is_nothing}
use Rattle.am_model.specs.Ticket.{TicketData, outcome_of}
use Rattle.am_model.specs.declared.notice.Report.{Report}
use Rattle.am_model.specs.declared.record.Call.{Call}
use Rattle.am_model.specs.declared.record.Call.TheVariants as call
use Rattle.am_model.specs.declared.record.Record.{Record}
use Rattle.am_desk.specs.History.{own}
use Rattle.am_desk.specs.Known.{Seen}
use Rattle.am_desk.specs.declared.word.Terms.{Terms}
use Rattle.am_pool.specs.declared.courier.Tried.{Tried}
use Rattle.am_pool.specs.declared.worker.Job.{Job}
use Rattle.am_pool.specs.Sendings.{IsSentFrom, end_on, note_at}
use Rattle.am_run.specs.Turns.{Opened, MainSteps, AreNotesUnlessFull, AreAllMainStepsOf, BeginsExhausted, FoundDue, AreMainStepsOf}
use Rattle.am_run.specs.Turns.{opened_by, outcomes_reported, last_end, records_in, report_on, reports_on, to_send}
use Rattle.am_scenario.specs.declared.scenario.Phase.{Phase}

-- a job is to be sent from this time on
abbrev pub StartsAt : ℕ → Job → Type 0
StartsAt at job = job.start ≡ at

-- the notices of jobs
abbrev pub notices_of : List Job → List NoticeData
notices_of jobs = map (λ j. j.notice.now) jobs

-- a pass has made these records since, and no others; what it has seen begins with what it had seen
abbrev pub MadeRecords : List Record → Seen → Seen → Type 0
MadeRecords rs p q = (q.number ≡ p.number) × (own p.number q.log ≡ own p.number p.log ++ rs) × IsPrefix p.log q.log

-- a pass has made the records of these notes since, but of those for which there was no capacity, and no others
pub record Notes (t : Terms) (calls : List Call) (p q : Seen) : Type 0 where
  pub records : List Record
  pub made : MadeRecords records p q
  pub noted : AreNotesUnlessFull t p.number q.log (own p.number p.log) calls records

-- the flush of a ticket
abbrev pub opened_of : TicketData → Opened
opened_of t = record { number = t.number; notices = t.notices }

-- nothing is recorded in a ticket
abbrev pub IsUnrecorded : TicketData → Type 0
IsUnrecorded t = t.outcomes ≡ []

-- the pass made begins at this time, none where flushes aren't asked for, and the tickets of their flushes came to the others;
-- if there can be more to begin, each of them took a group; else the last one found none due or failed at the limit
pub record Begins (t : Terms) (flush more : Bool) (at : ℕ) (p q : Seen) (ts us : List TicketData) : Type 0 where
  pub begins : List Record
  pub made : MadeRecords begins p q
  pub begun : All (λ r. (flush ≡ true) × (r.call ≡ call.Begin at)) begins
  pub found : more ≡ true → All FoundDue begins
  pub ended : flush ≡ true → more ≡ false → BeginsExhausted t at q.log begins
  pub opened : map opened_of us ≡ map opened_of ts ++ opened_by begins
  pub unrecorded : All IsUnrecorded ts → All IsUnrecorded us

-- a pass has seen more records, and no more than the limit allows
abbrev pub Grows : Terms → Seen → Seen → Type 0
Grows t p q = (length p.log < length q.log) × (length q.log ≤ t.config.limits.history)

-- a ticket in which the reports on it are recorded
abbrev pub recorded_all : List Report → TicketData → TicketData
recorded_all reports t = record t { outcomes = t.outcomes ++ outcomes_reported (reports_on t.number reports) }

-- whether a notice of a ticket succeeded, as is recorded there
abbrev pub is_recorded_success : TicketData → NoticeData → Bool
is_recorded_success t n = is_nothing n || is_delivered (outcome_of t.outcomes n.integration)

-- the note of a notice of a ticket, when its sending was over
abbrev pub note_of : ℕ → List Report → TicketData → NoticeData → Call
note_of at reports t n = note_at (end_on at (report_on t.number n.integration reports)) t n

-- the notes of those of these notices of a ticket that succeeded
abbrev pub notes_of : ℕ → List Report → TicketData → List NoticeData → List Call
notes_of at reports t ns = map (note_of at reports t) (filter (is_recorded_success t) ns)

-- the notes of the successes of these tickets
abbrev pub notes_of_all : ℕ → List Report → List TicketData → List Call
notes_of_all at reports ts = flat_map (λ t. notes_of at reports t t.notices) ts

-- the pass noted the notice at this index of a ticket at this time, unless the history had no capacity
abbrev pub NotesAt : Terms → ℕ → TicketData → ℕ → Seen → Seen → Type 0
NotesAt t now ticket index p q =
    (n : NoticeData) → slice_get ticket.notices index ≡ Some n → Notes t (note_at now ticket n ∷ []) p q

-- the finish of a ticket, when the sending of its notices was over
abbrev pub finish_with : ℕ → List Report → TicketData → Call
finish_with at reports t = call.Finish (last_end at (reports_on t.number reports)) t.number t.outcomes

-- the pass finished a ticket at this time
abbrev pub FinishesOne : ℕ → TicketData → Seen → Seen → Type 0
FinishesOne now t p q = (r : Record) × MadeRecords (r ∷ []) p q × (r.call ≡ call.Finish now t.number t.outcomes)

-- the notices of these tickets were sent from this time on, the reports are recorded, and the pass noted the successes
pub record Sends (Answers : Tried → Type 0) (t : Terms) (at : ℕ) (reports : List Report) (ts us : List TicketData)
    (p q : Seen) : Type 0 where
  pub sent : AllZip (IsSentFrom Answers at) (to_send (map opened_of ts)) reports
  pub recorded : us ≡ map (recorded_all reports) ts
  pub noted : Notes t (notes_of_all at reports us) p q

-- the pass finished these tickets, in their order
pub record Finishes (at : ℕ) (reports : List Report) (ts : List TicketData) (p q : Seen) : Type 0 where
  pub finishes : List Record
  pub made : MadeRecords finishes p q
  pub calls : map (λ r. r.call) finishes ≡ map (finish_with at reports) ts

-- the main thread had its turn in a phase, whose reports came to the others
pub record RunsMainSteps (Answers : Tried → Type 0) (t : Terms) (phase : Phase) (p q : Seen)
    (reports reports_since : List Report) : Type 0 where
  pub turn : MainSteps
  pub is : AreMainStepsOf Answers t p.number q.log (own p.number p.log) phase turn
  pub made : MadeRecords (records_in turn) p q
  pub more : reports_since ≡ reports ++ turn.reports

-- the main thread's pass has had its turns in these phases, and these are all reports
abbrev pub AfterMainSteps : (Tried → Type 0) → Terms → List Phase → Seen → List Report → Type 0
AfterMainSteps Answers t phases p reports = (p.number ≡ 0) × AreAllMainStepsOf Answers t 0 p.log phases reports
