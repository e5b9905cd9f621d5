-- The main thread's turns, from its steps.
use Rattle.std.proofs.Common.{◌≡◌, ◌==◌, ◌&&◌, ◌||◌, ℕ, Bool, true, false, ◌<◌, cond, All, subst, List, [], ◌∷◌, ◌++◌, length, get_or, map, Some, None, Option, Result, Ok, Err, IsOk, OnOk, refl, sym, ap, ◌∙◌, append_assoc, arith}
use Rattle.std.specs.List.{AllZip, filter, flat_map}
use mathlib.Core.List.{IsPrefix}
use Rattle.std.proofs.lemmas.Grind.{flat_map-append}
use Rattle.std.proofs.lemmas.List.{append-nil}
use Rattle.std.proofs.lemmas.List.Elements.{All-cons, All-head, All-nil, All-rest}
use Rattle.am_retry.specs.declared.outcome.Outcome.{Outcome}
use Rattle.am_model.specs.Finish.{is_delivered}
use Rattle.am_model.specs.Notice.{NoticeData, is_nothing}
use Rattle.am_model.specs.Ticket.{TicketData, outcome_of}
use Rattle.am_model.specs.declared.notice.Report.{Report}
use Rattle.am_model.specs.declared.record.Call.{Call}
use Rattle.am_model.specs.declared.record.Call.TheVariants as call
use Rattle.am_model.specs.declared.record.Record.{Record}
use Rattle.am_desk.specs.Desks.{AreFresh, IsPrefixViewOf}
use Rattle.am_desk.specs.History.{own}
use Rattle.am_desk.specs.Known.{Seen, seen}
use Rattle.am_desk.specs.declared.word.Terms.{Terms}
use Rattle.am_pool.specs.declared.courier.Tried.{Tried}
use Rattle.am_run.specs.Interleaving.{RanBefore, RunsPhase}
use Rattle.am_pool.specs.Sendings.{IsSentFrom, end_on}
use Rattle.am_run.specs.Steps.{Begins, Finishes, AfterMainSteps, IsUnrecorded, MadeRecords, Sends, RunsMainSteps, finish_with, is_recorded_success, note_of, notes_of, notes_of_all, opened_of, recorded_all}
use Rattle.am_run.specs.Turns.{AreNotesUnlessFull, AreTurnsFrom, AreAllMainStepsOf, AreMainStepsOf, Opened, MainSteps, all_notes_due, finish_of, is_success, last_end, note_on, notes_due, opened_by, outcome_in, outcomes_reported, records_in, report_on, reports_on, to_send}
use Rattle.am_scenario.specs.declared.scenario.Phase.{Phase}
use Rattle.am_run.proofs.lemmas.phases.Noting.{noted_longer}
use Rattle.am_run.proofs.lemmas.phases.Steps.{more_records}

-- what is recorded in a ticket leaves its flush
same_flushes : (reports : List Report) (ts : List TicketData) → map opened_of (map (recorded_all reports) ts) ≡ map opened_of ts
same_flushes reports [] = refl
same_flushes reports (t ∷ ts) = ap (λ (os : List Opened). opened_of t ∷ os) (same_flushes reports ts)

by_integration : (b : Bool) (r : Report) (reported : Option Outcome) (later : Option Report) → reported ≡ outcome_in later
    → cond b (Some r.outcome) reported ≡ outcome_in (cond b (Some r) later)
by_integration true r reported later same = refl
by_integration false r reported later same = same

by_flush : (a : Bool) (number integration : ℕ) (r : Report) (rs : List Report)
    → outcome_of (outcomes_reported (reports_on number rs)) integration ≡ outcome_in (report_on number integration rs)
    → outcome_of (outcomes_reported (cond a (r ∷ reports_on number rs) (reports_on number rs))) integration
    ≡ outcome_in (cond (a && (r.integration == integration)) (Some r) (report_on number integration rs))
by_flush true number integration r rs later =
    by_integration (r.integration == integration) r (outcome_of (outcomes_reported (reports_on number rs)) integration) (report_on number integration rs) later
by_flush false number integration r rs later = later

outcome_reported : (number integration : ℕ) (rs : List Report) → outcome_of (outcomes_reported (reports_on number rs)) integration ≡ outcome_in (report_on number integration rs)
outcome_reported number integration [] = refl
outcome_reported number integration (r ∷ rs) = by_flush (r.ticket == number) number integration r rs (outcome_reported number integration rs)

-- the note with what was recorded is the note of what the report says
note_reported : (at number integration : ℕ) (reported : Option Report) → call.Note (end_on at reported) number integration (outcome_in reported) ≡ note_on at number integration reported
note_reported at number integration None = refl
note_reported at number integration (Some r) = refl

-- a ticket in which just the reports on it are recorded
abbrev IsReported : List Report → TicketData → Type 0
IsReported reports u = u.outcomes ≡ outcomes_reported (reports_on u.number reports)

all_reported : (reports : List Report) (ts : List TicketData) → All IsUnrecorded ts → All (IsReported reports) (map (recorded_all reports) ts)
all_reported reports [] fresh = All-nil (IsReported reports)
all_reported reports (t ∷ ts) fresh =
    All-cons (IsReported reports) (recorded_all reports t) (map (recorded_all reports) ts)
    (ap (λ (os : List (ℕ × Outcome)). os ++ outcomes_reported (reports_on t.number reports)) (All-head IsUnrecorded t ts fresh))
    (all_reported reports ts (All-rest IsUnrecorded t ts (t ∷ ts) refl fresh))

-- filtered by one test and by another that says the same, and mapped to the same
by_one_test : {X Y : Type 0} (f g : X → Y) (x : X) (xs ys : List X) → f x ≡ g x → map f xs ≡ map g ys → (b : Bool)
    → map f (cond b (x ∷ xs) xs) ≡ map g (cond b (x ∷ ys) ys)
by_one_test f g x xs ys one rest true = ap (λ y. y ∷ map f xs) one ∙ ap (λ zs. g x ∷ zs) rest
by_one_test f g x xs ys one rest false = rest

by_same_test : {X Y : Type 0} (p q : X → Bool) (f g : X → Y) → ((x : X) → p x ≡ q x) → ((x : X) → f x ≡ g x) → (xs : List X)
    → map f (filter p xs) ≡ map g (filter q xs)
by_same_test p q f g tests maps [] = refl
by_same_test p q f g tests maps (x ∷ xs) =
    ap (λ b. map f (cond b (x ∷ filter p xs) (filter p xs))) (tests x)
    ∙ by_one_test f g x (filter p xs) (filter q xs) (maps x) (by_same_test p q f g tests maps xs) (q x)

-- the notes by what is recorded in a ticket are those by its reports
notes_reported : (at : ℕ) (reports : List Report) (u : TicketData) → IsReported reports u → notes_of at reports u u.notices ≡ notes_due at reports (opened_of u)
notes_reported at reports u reported =
    let outcome = λ (n : NoticeData). ap (λ (os : List (ℕ × Outcome)). outcome_of os n.integration) reported ∙ outcome_reported u.number n.integration reports in
    by_same_test (is_recorded_success u) (is_success reports u.number) (note_of at reports u) (λ (n : NoticeData). note_on at u.number n.integration (report_on u.number n.integration reports))
    (λ n. ap (λ (o : Option Outcome). is_nothing n || is_delivered o) (outcome n))
    (λ n.
    let report = report_on u.number n.integration reports in
    ap (λ (o : Option Outcome). call.Note (end_on at report) u.number n.integration o) (outcome n) ∙ note_reported at u.number n.integration report)
    u.notices

notes_reported_all : (at : ℕ) (reports : List Report) (us : List TicketData) → All (IsReported reports) us → notes_of_all at reports us ≡ all_notes_due at reports (map opened_of us)
notes_reported_all at reports [] reported = refl
notes_reported_all at reports (u ∷ us) reported =
    ap (λ (cs : List Call). cs ++ notes_of_all at reports us) (notes_reported at reports u (All-head (IsReported reports) u us reported))
    ∙ ap (λ (cs : List Call). notes_due at reports (opened_of u) ++ cs) (notes_reported_all at reports us (All-rest (IsReported reports) u us (u ∷ us) refl reported))

-- the notes of tickets in which the reports are recorded are those of their flushes
notes_each : (at : ℕ) (reports : List Report) (ts us : List TicketData) → us ≡ map (recorded_all reports) ts → All IsUnrecorded ts
    → notes_of_all at reports us ≡ all_notes_due at reports (map opened_of ts)
notes_each at reports ts us same fresh =
    ap (notes_of_all at reports) same
    ∙ (notes_reported_all at reports (map (recorded_all reports) ts) (all_reported reports ts fresh)
    ∙ ap (all_notes_due at reports) (same_flushes reports ts))

-- the finishes of these tickets are those of their flushes
finish_each : (at : ℕ) (reports : List Report) (ts : List TicketData) → All IsUnrecorded ts
    → map (finish_with at reports) (map (recorded_all reports) ts) ≡ map (finish_of at reports) (map opened_of ts)
finish_each at reports [] fresh = refl
finish_each at reports (t ∷ ts) fresh =
    let reported = reports_on t.number reports in
    ap (λ (os : List (ℕ × Outcome)). call.Finish (last_end at reported) t.number (os ++ outcomes_reported reported) ∷ map (finish_with at reports) (map (recorded_all reports) ts))
    (All-head IsUnrecorded t ts fresh)
    ∙ ap (λ (cs : List Call). call.Finish (last_end at reported) t.number (outcomes_reported reported) ∷ cs)
    (finish_each at reports ts (All-rest IsUnrecorded t ts (t ∷ ts) refl fresh))

-- the pass finished these tickets except for those that are left
pub record FinishesSoFar (at : ℕ) (reports : List Report) (ts left : List TicketData) (p q : Seen) : Type 0 where
  pub finishes : List Record
  pub made : MadeRecords finishes p q
  pub calls : map (λ (r : Record). r.call) finishes ++ map (finish_with at reports) left ≡ map (finish_with at reports) ts

-- a turn was one, seen from later
turn_longer : (Answers : Tried → Type 0) (t : Terms) (pass : ℕ) (history later before : List Record) (phase : Phase) (turn : MainSteps) → IsPrefix history later
    → AreMainStepsOf Answers t pass history before phase turn → AreMainStepsOf Answers t pass later before phase turn
turn_longer Answers t pass history later before phase turn longer is =
    record {
      begun = is.begun;
      sent = is.sent;
      noted = noted_longer t pass history later (before ++ turn.begins) (all_notes_due phase.at turn.reports (opened_by turn.begins)) turn.notes longer is.noted;
      finished = is.finished;
    }

turns_longer : (Answers : Tried → Type 0) (t : Terms) (pass : ℕ) (history later before : List Record) (phases : List Phase) (turns : List MainSteps) → IsPrefix history later
    → AreTurnsFrom Answers t pass history before phases turns → AreTurnsFrom Answers t pass later before phases turns
turns_longer Answers t pass history later before [] [] longer are = tt
turns_longer Answers t pass history later before [] (u ∷ us) longer are = absurd are
turns_longer Answers t pass history later before (p ∷ ps) [] longer are = absurd are
turns_longer Answers t pass history later before (p ∷ ps) (u ∷ us) longer are =
    (turn_longer Answers t pass history later before p u longer are.0, turns_longer Answers t pass history later (before ++ records_in u) ps us longer are.1)

-- one turn more at the end
turns_push : (Answers : Tried → Type 0) (t : Terms) (pass : ℕ) (history before : List Record) (phases : List Phase) (turns : List MainSteps) (phase : Phase) (turn : MainSteps) → AreTurnsFrom Answers t pass history before phases turns
    → AreMainStepsOf Answers t pass history (before ++ flat_map records_in turns) phase turn → AreTurnsFrom Answers t pass history before (phases ++ phase ∷ []) (turns ++ turn ∷ [])
turns_push Answers t pass history before [] [] phase turn are is =
    (subst (λ (xs : List Record). AreMainStepsOf Answers t pass history xs phase turn) (append-nil before) is, tt)
turns_push Answers t pass history before [] (u ∷ us) phase turn are is = absurd are
turns_push Answers t pass history before (p ∷ ps) [] phase turn are is = absurd are
turns_push Answers t pass history before (p ∷ ps) (u ∷ us) phase turn are is = (
  are.0,
  turns_push Answers t pass history (before ++ records_in u) ps us phase turn are.1
      (subst (λ (xs : List Record). AreMainStepsOf Answers t pass history xs phase turn) (sym (append_assoc before (records_in u) (flat_map records_in us))) is),
)

-- the steps of a phase are a turn
pub turn_taken : (Answers : Tried → Type 0) (t : Terms) (phase : Phase) (p q r s : Seen) (ts us : List TicketData) (had reports since : List Report) → Begins t phase.flush false phase.at p q [] ts
    → Sends Answers t phase.at reports ts us q r → Finishes phase.at reports us r s → since ≡ had ++ reports → RunsMainSteps Answers t phase p s had since
turn_taken Answers t phase p q r s ts us had reports since begins sends finishes more =
    let notes = sends.noted in
    let before = own p.number p.log in
    let fresh : All IsUnrecorded ts = begins.unrecorded (All-nil IsUnrecorded) in
    let opened : map opened_of ts ≡ opened_by begins.begins = begins.opened in
    let noted : AreNotesUnlessFull t p.number r.log (before ++ begins.begins) (notes_of_all phase.at reports us) notes.records =
    subst (λ (xs : List Record). AreNotesUnlessFull t p.number r.log xs (notes_of_all phase.at reports us) notes.records) begins.made.1
    (subst (λ (n : ℕ). AreNotesUnlessFull t n r.log (own n q.log) (notes_of_all phase.at reports us) notes.records) begins.made.0 notes.noted)
    in
    let due : notes_of_all phase.at reports us ≡ all_notes_due phase.at reports (opened_by begins.begins) =
    notes_each phase.at reports ts us sends.recorded fresh ∙ ap (all_notes_due phase.at reports) opened
    in
    let later : IsPrefix r.log s.log =
    finishes.made.2
    in
    record {
      turn = record { begins = begins.begins; reports = reports; notes = notes.records; finishes = finishes.finishes };
      is =
          record {
            begun = begins.begun;
            sent = subst (λ (os : List Opened). AllZip (IsSentFrom Answers phase.at) (to_send os) reports) opened sends.sent;
            noted =
                noted_longer t p.number r.log s.log (before ++ begins.begins) (all_notes_due phase.at reports (opened_by begins.begins)) notes.records later
                (subst (λ (cs : List Call). AreNotesUnlessFull t p.number r.log (before ++ begins.begins) cs notes.records) due noted);
            finished =
                finishes.calls
                ∙ (ap (map (finish_with phase.at reports)) sends.recorded
                ∙ (finish_each phase.at reports ts fresh ∙ ap (map (finish_of phase.at reports)) opened));
          };
      made = more_records (begins.begins ++ notes.records) finishes.finishes p r s (more_records begins.begins notes.records p q r begins.made notes.made) finishes.made;
      more = more;
    }

-- a pass whose notes came after it had made no record
notes_after : (q joined r : Seen) (notes : List Record) → MadeRecords [] q joined → IsPrefix joined.log r.log → MadeRecords notes q r → MadeRecords notes joined r
notes_after q joined r notes quiet begins made = (
  made.0 ∙ sym quiet.0,
  subst (λ (n : ℕ). own n r.log ≡ own n joined.log ++ notes) (sym quiet.0)
      (made.1 ∙ ap (λ (rs : List Record). rs ++ notes) (sym (quiet.1 ∙ append-nil (own q.number q.log)))),
  begins,
)

-- the steps of a phase are a turn that has the lanes between its begins and its notes
pub part_taken : (Answers : Tried → Type 0) (t : Terms) (phase : Phase) (p q r s : Seen) (ls ms : List Seen) (ts us : List TicketData) (had reports since : List Report)
    → Begins t phase.flush false phase.at p q [] ts → Sends Answers t phase.at reports ts us q r → Finishes phase.at reports us r s → since ≡ had ++ reports → RanBefore q r ls ms
    → RunsPhase Answers t phase p s ls ms had since
unfolding turn_taken
part_taken Answers t phase p q r s ls ms ts us had reports since begins sends finishes more first =
    let notes = sends.noted in
    record {
      took = turn_taken Answers t phase p q r s ts us had reports since begins sends finishes more;
      begun = q;
      joined = first.joined;
      begins = begins.made;
      ended = λ requested. begins.ended requested refl;
      concurrent = first.ran;
      ends =
          more_records notes.records finishes.finishes first.joined r s (notes_after q first.joined r notes.records first.ran.quiet first.begins notes.made)
          finishes.made;
    }

-- one turn more
pub turn_more : (Answers : Tried → Type 0) (t : Terms) (phases : List Phase) (phase : Phase) (p q : Seen) (reports since : List Report) → AfterMainSteps Answers t phases p reports → RunsMainSteps Answers t phase p q reports since
    → AfterMainSteps Answers t (phases ++ phase ∷ []) q since
turn_more Answers t phases phase p q reports since had took =
    let turns = had.1.turns in
    let more : own 0 q.log ≡ own 0 p.log ++ records_in took.turn = subst (λ (n : ℕ). own n q.log ≡ own n p.log ++ records_in took.turn) had.0 took.made.1 in
    let is : AreMainStepsOf Answers t 0 q.log (flat_map records_in turns) phase took.turn =
    subst (λ (xs : List Record). AreMainStepsOf Answers t 0 q.log xs phase took.turn) had.1.made
    (subst (λ (n : ℕ). AreMainStepsOf Answers t n q.log (own n p.log) phase took.turn) had.0 took.is)
    in (
      took.made.0 ∙ had.0,
      record {
        turns = turns ++ took.turn ∷ [];
        each = turns_push Answers t 0 q.log [] phases turns phase took.turn (turns_longer Answers t 0 p.log q.log [] phases turns took.made.2 had.1.each) is;
        made =
            more
            ∙ (ap (λ (rs : List Record). rs ++ records_in took.turn) had.1.made
            ∙ sym (flat_map-append records_in turns (took.turn ∷ []) ∙ ap (λ (rs : List Record). flat_map records_in turns ++ rs) (append-nil (records_in took.turn))));
        reported =
            took.more
            ∙ (ap (λ (rs : List Report). rs ++ took.turn.reports) had.1.reported
            ∙ sym (flat_map-append (λ (u : MainSteps). u.reports) turns (took.turn ∷ [])
            ∙ ap (λ (rs : List Report). flat_map (λ (u : MainSteps). u.reports) turns ++ rs) (append-nil took.turn.reports)));
      },
    )

-- it comes after the others
pub turns_more : (Answers : Tried → Type 0) (t : Terms) (phases : List Phase) (phase : Phase) (p q : Seen) (reports since : List Report) → (had : AfterMainSteps Answers t phases p reports)
    → (took : RunsMainSteps Answers t phase p q reports since) → (turn_more Answers t phases phase p q reports since had took).1.turns ≡ had.1.turns ++ took.turn ∷ []
unfolding turn_more
turns_more Answers t phases phase p q reports since had took = refl

-- the turns are in a history in which the pass is
pub turns_prefixed : (Answers : Tried → Type 0) (t : Terms) (phases : List Phase) (p : Seen) (reports : List Report) (history : List Record) → AfterMainSteps Answers t phases p reports → IsPrefixViewOf p history
    → AreAllMainStepsOf Answers t 0 history phases reports
turns_prefixed Answers t phases p reports history had prefixed =
    let so_far = had.1 in
    record {
      turns = so_far.turns;
      each = turns_longer Answers t 0 p.log history [] phases so_far.turns prefixed.0 so_far.each;
      made = subst (λ (n : ℕ). own n history ≡ own n p.log) had.0 prefixed.1 ∙ so_far.made;
      reported = so_far.reported;
    }

pub turns_stay : (Answers : Tried → Type 0) (t : Terms) (phases : List Phase) (p : Seen) (reports : List Report) (history : List Record) → (had : AfterMainSteps Answers t phases p reports)
    → (prefixed : IsPrefixViewOf p history) → (turns_prefixed Answers t phases p reports history had prefixed).turns ≡ had.1.turns
unfolding turns_prefixed
turns_stay Answers t phases p reports history had prefixed = refl

-- a pass that has seen nothing had no turn
pub no_turns : (Answers : Tried → Type 0) (t : Terms) (p : Seen) (reports : List Report) → p ≡ seen 0 0 [] → reports ≡ [] → AfterMainSteps Answers t [] p reports
no_turns Answers t p reports fresh none =
    (ap (λ (s : Seen). s.number) fresh, record { turns = []; each = tt; made = ap (λ (s : Seen). own 0 s.log) fresh; reported = none })

pub turns_none : (Answers : Tried → Type 0) (t : Terms) (p : Seen) (reports : List Report) → (fresh : p ≡ seen 0 0 []) → (none : reports ≡ [])
    → (no_turns Answers t p reports fresh none).1.turns ≡ []
unfolding no_turns
turns_none Answers t p reports fresh none = refl

-- the first of passes that have seen nothing
pub first_is_fresh : (n : ℕ) (ps : List Seen) (p : Seen) → AreFresh n ps → 0 < length ps → p ≡ get_or ps 0 p → p ≡ seen n 0 []
first_is_fresh n [] p fresh some is = absurd (omega arith)
first_is_fresh n (x ∷ ps) p fresh some is = is ∙ fresh.0

-- what holds if a call succeeded
pub if_ok : {X Y : Type 0} (r : Result X Y) (P : Type 0) → (IsOk r → P) → OnOk r P
if_ok (Ok x) P holds = holds refl
if_ok (Err y) P holds = tt
