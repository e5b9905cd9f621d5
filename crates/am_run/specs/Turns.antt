-- What the main thread of a scenario does, phase by phase.
use Rattle.std.specs.Prelude.{◌≡◌, ◌≢◌, ◌==◌, ◌&&◌, ◌||◌, ◌⊎◌, ℕ, Bool, true, not, max}
use Rattle.std.specs.Prelude.{All, List, [], ◌∷◌, ◌++◌, length, map, Option, Some, None, if◌then◌else◌}
use Rattle.std.specs.List.{AllZip, filter, flat_map, fold}
use mathlib.Core.List.{IsPrefix}
use Rattle.am_model.specs.Causes.{is_full}
use Rattle.am_model.specs.Finish.{is_delivered}
use Rattle.am_model.specs.Notice.{NoticeData, is_nothing}
use Rattle.am_model.specs.Replay.{replay}
use Rattle.am_model.specs.declared.fault.Fault.TheVariants.{TooManyOpen}
use Rattle.am_model.specs.declared.notice.Report.{Report}
use Rattle.am_model.specs.declared.record.Call.{Call}
use Rattle.am_model.specs.declared.record.Call.TheVariants as call
use Rattle.am_model.specs.declared.record.Record.{Record}
use Rattle.am_model.specs.declared.record.Reply.{Reply}
use Rattle.am_model.specs.declared.record.Reply.TheVariants as reply
use Rattle.am_retry.specs.declared.outcome.Outcome.{Outcome}
use Rattle.am_desk.specs.Calls.{cause_of_begin}
use Rattle.am_desk.specs.History.{own}
use Rattle.am_desk.specs.declared.word.Terms.{Terms}
use Rattle.am_pool.specs.declared.courier.Tried.{Tried}
use Rattle.am_pool.specs.Sendings.{IsSentFrom}
use Rattle.am_scenario.specs.declared.scenario.Phase.{Phase}

-- a flush that was begun: its number and its notices
pub record Opened : Type 0 where
  pub number : ℕ
  pub notices : List NoticeData

-- the flush that a reply opened, if it opened one
abbrev pub opened_in : Reply → List Opened
opened_in (reply.Inserted inserted) = []
opened_in (reply.Silenced silenced) = []
opened_in reply.NothingDue = []
opened_in (reply.Quiet group removed) = []
opened_in (reply.Flush group opened) = record { number = opened.number; notices = opened.notices } ∷ []
opened_in (reply.Finished finished) = []
opened_in (reply.Maintained maintained) = []
opened_in (reply.EmptyGroupsRemoved removed) = []
opened_in (reply.Forgotten forgotten) = []
opened_in (reply.Loaded loaded) = []
opened_in reply.Noted = []

-- the flushes that these begins opened, in their order
abbrev pub opened_by : List Record → List Opened
opened_by begins = flat_map (λ r. opened_in r.reply) begins

-- the notices of a flush that have something to send
abbrev pub sendable : List NoticeData → List NoticeData
sendable notices = filter (λ n. not (is_nothing n)) notices

-- the notices of these flushes that have something to send, by flush and integration
abbrev pub to_send : List Opened → List NoticeData
to_send opened = flat_map (λ o. sendable o.notices) opened

-- the reports on a flush
abbrev pub reports_on : ℕ → List Report → List Report
reports_on number reports = filter (λ r. r.ticket == number) reports

-- the first of these reports on an integration of a flush, if there is one
abbrev pub report_on : ℕ → ℕ → List Report → Option Report
report_on number integration [] = None
report_on number integration (r ∷ rs) =
    if (r.ticket == number) && (r.integration == integration) then Some r else report_on number integration rs

-- the outcome in a report
abbrev pub outcome_in : Option Report → Option Outcome
outcome_in None = None
outcome_in (Some r) = Some r.outcome

-- the note of an integration: at the end that its report says and with the outcome; at this time where there is none
abbrev pub note_on : ℕ → ℕ → ℕ → Option Report → Call
note_on at number integration None = call.Note at number integration None
note_on at number integration (Some r) = call.Note r.ended number integration (Some r.outcome)

-- the latest of this time and the ends in these reports
abbrev pub last_end : ℕ → List Report → ℕ
last_end at reports = fold max at (map (λ r. r.ended) reports)

-- the outcomes in these reports, each with its integration
abbrev pub outcomes_reported : List Report → List (ℕ × Outcome)
outcomes_reported reports = map (λ r. (r.integration, r.outcome)) reports

-- the finish of a flush: when all its reports had come and with their outcomes; at this time where there is none
abbrev pub finish_of : ℕ → List Report → Opened → Call
finish_of at reports o =
    let reported = reports_on o.number reports in
    call.Finish (last_end at reported) o.number (outcomes_reported reported)

-- a begin at the time of a phase, which asks for flushes
abbrev pub IsBeginOf : Phase → Record → Type 0
IsBeginOf phase r = (phase.flush ≡ true) × (r.call ≡ call.Begin phase.at)

-- whether a notice of a flush succeeded: it has nothing to send, or its report says that it was delivered
abbrev pub is_success : List Report → ℕ → NoticeData → Bool
is_success reports number n = is_nothing n || is_delivered (outcome_in (report_on number n.integration reports))

-- the notes of the successes of a flush, in the order of its notices
abbrev pub notes_due : ℕ → List Report → Opened → List Call
notes_due at reports o =
    map (λ n. note_on at o.number n.integration (report_on o.number n.integration reports)) (filter (is_success reports o.number) o.notices)

-- the notes of all successes of these flushes
abbrev pub all_notes_due : ℕ → List Report → List Opened → List Call
all_notes_due at reports opened = flat_map (notes_due at reports) opened

-- at some time, when a pass had made just these records, this held of the history so far
abbrev pub AtSomePrefix : ℕ → List Record → List Record → (List Record → Type 0) → Type 0
AtSomePrefix pass history records Holds = (front : List Record) × IsPrefix front history × (own pass front ≡ records) × Holds front

-- the limit of open flushes was reached: a begin at this time fails as `TooManyOpen`
abbrev pub FailsTooManyOpen : Terms → ℕ → List Record → Type 0
FailsTooManyOpen t at front = cause_of_begin t at front ≡ Some TooManyOpen

-- a history had no capacity for one record more, besides those that finish the open flushes
abbrev pub FailsHistoryFull : Terms → List Record → Type 0
FailsHistoryFull t front = is_full t.config (length front) (replay t.config front) 1 ≡ true

-- a begin that found a group due
abbrev pub FoundDue : Record → Type 0
FoundDue r = r.reply ≢ reply.NothingDue

-- these begins, all but the last of which found a group due, ended with one that found none
abbrev pub EndsWithNothingDue : List Record → Type 0
EndsWithNothingDue begins =
    (found : List Record) × (last : Record) × (begins ≡ found ++ last ∷ []) × All FoundDue found × (last.reply ≡ reply.NothingDue)

-- these begins ended when no group was due, or at the limit of open flushes: this was the history then
abbrev pub BeginsExhausted : Terms → ℕ → List Record → List Record → Type 0
BeginsExhausted t at front begins = EndsWithNothingDue begins ⊎ (All FoundDue begins × FailsTooManyOpen t at front)

-- a pass that had made the records before made these then: a record of each of the calls, in their order, but of those for which
-- there was no capacity when their turn came
abbrev pub AreNotesUnlessFull : Terms → ℕ → List Record → List Record → List Call → List Record → Type 0
AreNotesUnlessFull t pass history before [] notes = notes ≡ []
AreNotesUnlessFull t pass history before (c ∷ cs) notes =
    ((r : Record) × (rs : List Record) × (notes ≡ r ∷ rs) × (r.call ≡ c) × AreNotesUnlessFull t pass history (before ++ r ∷ []) cs rs)
    ⊎ (AtSomePrefix pass history before (FailsHistoryFull t) × AreNotesUnlessFull t pass history before cs notes)

-- what the main thread does in a phase: it begins flushes, hears of the sending of their notices, notes successes and finishes the flushes
pub record MainSteps : Type 0 where
  pub begins : List Record
  pub reports : List Report
  pub notes : List Record
  pub finishes : List Record

-- its records, in their order
abbrev pub records_in : MainSteps → List Record
records_in turn = turn.begins ++ turn.notes ++ turn.finishes

-- the turn of a phase, of a pass that had made the records before: the begins are at the phase's time; each notice that has
-- something to send has one report, of a sending from that time on whose tries are answered so; each success is noted, at the end of
-- its sending, but where there was no capacity; and each flush is finished once, in their order, at the end of the last. When the begins
-- end is said of the part of the phase
pub record AreMainStepsOf (Answers : Tried → Type 0) (t : Terms) (pass : ℕ) (history before : List Record) (phase : Phase)
    (turn : MainSteps) : Type 0 where
  pub begun : All (IsBeginOf phase) turn.begins
  pub sent : AllZip (IsSentFrom Answers phase.at) (to_send (opened_by turn.begins)) turn.reports
  pub noted : AreNotesUnlessFull t pass history (before ++ turn.begins)
      (all_notes_due phase.at turn.reports (opened_by turn.begins)) turn.notes
  pub finished : map (λ r. r.call) turn.finishes ≡ map (finish_of phase.at turn.reports) (opened_by turn.begins)

-- these are turns of these phases, one after the other, of a pass that had made the records before
abbrev pub AreTurnsFrom : (Tried → Type 0) → Terms → ℕ → List Record → List Record → List Phase → List MainSteps → Type 0
AreTurnsFrom Answers t pass history before [] [] = Unit {0}
AreTurnsFrom Answers t pass history before [] (u ∷ us) = ⊥
AreTurnsFrom Answers t pass history before (p ∷ ps) [] = ⊥
AreTurnsFrom Answers t pass history before (p ∷ ps) (u ∷ us) =
    AreMainStepsOf Answers t pass history before p u × AreTurnsFrom Answers t pass history (before ++ records_in u) ps us

-- a pass had a turn in each phase and made no other records in a history, with tries that are answered so, and these are all reports
pub record AreAllMainStepsOf (Answers : Tried → Type 0) (t : Terms) (pass : ℕ) (history : List Record) (phases : List Phase)
    (reports : List Report) : Type 0 where
  pub turns : List MainSteps
  pub each : AreTurnsFrom Answers t pass history [] phases turns
  pub made : own pass history ≡ flat_map records_in turns
  pub reported : reports ≡ flat_map (λ u. u.reports) turns
