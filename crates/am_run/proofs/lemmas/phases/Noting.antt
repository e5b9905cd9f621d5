-- The notes that the main thread's pass makes.
use Rattle.std.proofs.Common.{◌≡◌, inl, inr, ⊎_elim, ℕ, Bool, true, false, not, ◌+◌, ◌<◌, cond, subst, List, [], ◌∷◌, ◌++◌, length, get_or, map, take, slice_get, Option, Some, None, refl, sym, ap, ◌∙◌, append_assoc, if◌then◌else◌}
use Rattle.std.specs.List.{filter}
use mathlib.Core.List.{IsPrefix}
use Rattle.std.proofs.lemmas.Grind.{flat_map-append}
use Rattle.std.proofs.lemmas.List.{append-nil, map-append, take_more}
use Rattle.std.proofs.lemmas.List.Elements.{filter-append}
use Rattle.std.proofs.lemmas.Option.{get_or_from_slice_get}
use Rattle.am_model.specs.Causes.{notified_cause, flush_cause, is_full, notice_cause}
use Rattle.am_model.specs.Note.{notified_by, is_ready}
use Rattle.am_model.specs.Notice.{NoticeData}
use Rattle.am_model.specs.Records.{IsNoteOf}
use Rattle.am_model.specs.State.{NotifiedState, FlushState, State, flush_numbered}
use Rattle.am_model.specs.Replay.{replay}
use Rattle.am_model.specs.Ticket.{TicketData, outcome_of}
use Rattle.am_model.specs.declared.config.Config.{Config}
use Rattle.am_model.specs.declared.fault.NoteFault.{NoteFault}
use Rattle.am_model.specs.declared.fault.NoteFault.TheVariants as note
use Rattle.am_model.specs.declared.notice.Report.{Report}
use Rattle.am_model.specs.declared.record.Call.{Call}
use Rattle.am_model.specs.declared.record.Record.{Record}
use Rattle.am_desk.specs.Calls.{Called, cause_of_note}
use Rattle.am_desk.specs.History.{own}
use Rattle.am_desk.specs.Known.{Observes, Seen}
use Rattle.am_desk.specs.declared.word.Terms.{Terms}
use Rattle.am_desk.proofs.Prefixes.{prefix_self, prefix_trans}
use Rattle.am_retry.specs.declared.outcome.Outcome.{Outcome}
use Rattle.am_pool.specs.Sendings.{end_on, note_at}
use Rattle.am_run.specs.Steps.{Notes, is_recorded_success, note_of, notes_of, notes_of_all}
use Rattle.am_run.specs.Turns.{AreNotesUnlessFull, FailsHistoryFull, AtSomePrefix, report_on}
use Rattle.am_run.proofs.lemmas.phases.Steps.{looked_records, more_records, no_records, one_record}

-- what was once so was so, seen from later
pub once_longer : (pass : ℕ) (history later records : List Record) (Holds : List Record → Type 0) → IsPrefix history later
    → AtSomePrefix pass history records Holds → AtSomePrefix pass later records Holds
once_longer pass history later records Holds longer once = (once.0, prefix_trans once.0 history later once.1 longer, once.2, once.3)

-- the first of these calls is noted, and the others are
abbrev IsNoted : Terms → ℕ → List Record → List Record → Call → List Call → List Record → Type 0
IsNoted t pass history before c cs notes =
    (r : Record) × (rs : List Record) × (notes ≡ r ∷ rs) × (r.call ≡ c) × AreNotesUnlessFull t pass history (before ++ r ∷ []) cs rs

-- there was no capacity for the first of these notes, and the others are noted
abbrev IsLeft : Terms → ℕ → List Record → List Record → List Call → List Record → Type 0
IsLeft t pass history before cs notes = AtSomePrefix pass history before (FailsHistoryFull t) × AreNotesUnlessFull t pass history before cs notes

pub noted_longer : (t : Terms) (pass : ℕ) (history later before : List Record) (calls : List Call) (notes : List Record) → IsPrefix history later
    → AreNotesUnlessFull t pass history before calls notes → AreNotesUnlessFull t pass later before calls notes
noted_longer t pass history later before [] notes longer noted = noted
noted_longer t pass history later before (c ∷ cs) notes longer noted =
    ⊎_elim
    (λ (one : IsNoted t pass history before c cs notes).
    inl (one.0, one.1, one.2, one.3, noted_longer t pass history later (before ++ one.0 ∷ []) cs one.1 longer one.4))
    (λ (left : IsLeft t pass history before cs notes).
    inr (once_longer pass history later before (FailsHistoryFull t) longer left.0, noted_longer t pass history later before cs notes longer left.1))
    noted

-- these notes, and then those
pub noted_more : (t : Terms) (pass : ℕ) (history before : List Record) (cs ds : List Call) (rs ss : List Record) → AreNotesUnlessFull t pass history before cs rs
    → AreNotesUnlessFull t pass history (before ++ rs) ds ss → AreNotesUnlessFull t pass history before (cs ++ ds) (rs ++ ss)
noted_more t pass history before [] ds rs ss first after =
    subst (λ (xs : List Record). AreNotesUnlessFull t pass history before ds (xs ++ ss)) (sym first)
    (subst (λ (xs : List Record). AreNotesUnlessFull t pass history xs ds ss) (ap (λ (xs : List Record). before ++ xs) first ∙ append-nil before) after)
noted_more t pass history before (c ∷ cs) ds rs ss first after =
    ⊎_elim
    (λ (one : IsNoted t pass history before c cs rs).
    inl (
      one.0,
      one.1 ++ ss,
      ap (λ (xs : List Record). xs ++ ss) one.2,
      one.3,
      noted_more t pass history (before ++ one.0 ∷ []) cs ds one.1 ss one.4
          (subst (λ (xs : List Record). AreNotesUnlessFull t pass history xs ds ss)
          (ap (λ (xs : List Record). before ++ xs) one.2 ∙ sym (append_assoc before (one.0 ∷ []) one.1)) after),
    ))
    (λ (left : IsLeft t pass history before cs rs). inr (left.0, noted_more t pass history before cs ds rs ss left.1 after))
    first

pub notes_none : (t : Terms) (p : Seen) → Notes t [] p p
notes_none t p = record { records = []; made = no_records p; noted = refl }

-- these notes, and then those, of a pass
pub notes_more : (t : Terms) (cs ds : List Call) (p q r : Seen) → Notes t cs p q → Notes t ds q r → Notes t (cs ++ ds) p r
notes_more t cs ds p q r first after =
    let before = own p.number p.log in
    record {
      records = first.records ++ after.records;
      made = more_records first.records after.records p q r first.made after.made;
      noted =
          noted_more t p.number r.log before cs ds first.records after.records
          (noted_longer t p.number q.log r.log before cs first.records after.made.2 first.noted)
          (subst (λ (xs : List Record). AreNotesUnlessFull t p.number r.log xs ds after.records) first.made.1
          (subst (λ (n : ℕ). AreNotesUnlessFull t n r.log (own n q.log) ds after.records) first.made.0 after.noted));
    }

-- an accepted note
pub note_made : (t : Terms) (p q : Seen) (Allowed : List Record → Type 0) (r : Record) (now : ℕ) (ticket : TicketData) (index : ℕ) (n : NoticeData)
    → slice_get ticket.notices index ≡ Some n → IsNoteOf p.number now ticket index r → Called t p Allowed r q → Notes t (note_at now ticket n ∷ []) p q
note_made t p q Allowed r now ticket index n there is called =
    let same : is.0 ≡ n = sym (get_or_from_slice_get ticket.notices index is.0 n is.1) ∙ get_or_from_slice_get ticket.notices index n n there in
    record {
      records = r ∷ [];
      made = one_record t p q Allowed r called;
      noted = inl (r, [], refl, ap (λ (x : Record). x.call) is.2 ∙ ap (note_at now ticket) same, refl);
    }

full_notified : (ready noted full : Bool) → (if not ready then Some note.NotReady else (if noted then Some note.Already else (if full then Some note.HistoryFull else None))) ≡ Some note.HistoryFull → full ≡ true
full_notified false noted full e = absurd (cc)
full_notified true true full e = absurd (cc)
full_notified true false true e = refl
full_notified true false false e = absurd (cc)

full_integration : (config : Config) (records : ℕ) (s : State) (outcome : Option Outcome) (a : Option NotifiedState)
    → notified_cause config records s outcome a ≡ Some note.HistoryFull → is_full config records s 1 ≡ true
full_integration config records s outcome None e = absurd (cc)
full_integration config records s outcome (Some a) e = full_notified (is_ready outcome a) a.noted (is_full config records s 1) e

full_notice : (config : Config) (records : ℕ) (s : State) (ticket : TicketData) (n : Option NoticeData) (f : FlushState)
    → notice_cause config records s ticket n f ≡ Some note.HistoryFull → is_full config records s 1 ≡ true
full_notice config records s ticket None f e = absurd (cc)
full_notice config records s ticket (Some n) f e = full_integration config records s (outcome_of ticket.outcomes n.integration) (notified_by f n.integration) e

full_flush : (config : Config) (records : ℕ) (s : State) (ticket : TicketData) (index : ℕ) (f : Option FlushState)
    → flush_cause config records s ticket index f ≡ Some note.HistoryFull → is_full config records s 1 ≡ true
full_flush config records s ticket index None e = absurd (cc)
full_flush config records s ticket index (Some f) e = full_notice config records s ticket (slice_get ticket.notices index) f e

full_ours : (ours : Bool) (cause : Option NoteFault) → (if ours then cause else Some note.Foreign) ≡ Some note.HistoryFull → cause ≡ Some note.HistoryFull
full_ours true cause e = e
full_ours false cause e = absurd (cc)

-- a note that was refused for it had no capacity
pub had_no_space : (t : Terms) (ticket : TicketData) (index : ℕ) (h : List Record) → cause_of_note t ticket index h ≡ Some note.HistoryFull → FailsHistoryFull t h
had_no_space t ticket index h why =
    let f = flush_numbered (replay t.config h).flushes ticket.number in
    full_flush t.config (length h) (replay t.config h) ticket index f (full_ours _ (flush_cause t.config (length h) (replay t.config h) ticket index f) why)

-- a note for which there was no capacity
pub note_left : (t : Terms) (p q : Seen) (ticket : TicketData) (index : ℕ) (c : Call) → Observes t p q → cause_of_note t ticket index q.log ≡ Some note.HistoryFull → Notes t (c ∷ []) p q
note_left t p q ticket index c looks why =
    record {
      records = [];
      made = looked_records t p q looks;
      noted = inr ((q.log, prefix_self q.log, looks.own, had_no_space t ticket index q.log why), refl);
    }

-- the notes of one notice more
by_success : (at : ℕ) (reports : List Report) (t : TicketData) (n : NoticeData) (b : Bool) → map (note_of at reports t) (cond b (n ∷ []) []) ≡ cond b (note_of at reports t n ∷ []) []
by_success at reports t n true = refl
by_success at reports t n false = refl

notes_next : (at : ℕ) (reports : List Report) (t : TicketData) (ns : List NoticeData) (i : ℕ) (n : NoticeData) → i < length ns → n ≡ get_or ns i n
    → notes_of at reports t (take (i + 1) ns) ≡ notes_of at reports t (take i ns) ++ cond (is_recorded_success t n) (note_of at reports t n ∷ []) []
notes_next at reports t ns i n there is =
    let p = is_recorded_success t in
    let one : take (i + 1) ns ≡ take i ns ++ n ∷ [] = take_more ns i n there ∙ ap (λ (x : NoticeData). take i ns ++ x ∷ []) (sym is) in
    ap (notes_of at reports t) one
    ∙ (ap (map (note_of at reports t)) (filter-append p (take i ns) (n ∷ []))
    ∙ (map-append (note_of at reports t) (filter p (take i ns)) (filter p (n ∷ []))
    ∙ ap (λ (cs : List Call). notes_of at reports t (take i ns) ++ cs) (by_success at reports t n (p n))))

-- one notice more, which succeeded and was noted
pub noted_next : (t : Terms) (at : ℕ) (reports : List Report) (ticket : TicketData) (ns : List NoticeData) (i m now : ℕ) (n : NoticeData) (p q r : Seen) → m ≡ i + 1 → i < length ns → n ≡ get_or ns i n
    → is_recorded_success ticket n ≡ true → now ≡ end_on at (report_on ticket.number n.integration reports)
    → Notes t (notes_of at reports ticket (take i ns)) p q → Notes t (note_at now ticket n ∷ []) q r → Notes t (notes_of at reports ticket (take m ns)) p r
noted_next t at reports ticket ns i m now n p q r next there is succeeded end so_far one =
    let here : Notes t (note_of at reports ticket n ∷ []) q r = subst (λ (k : ℕ). Notes t (note_at k ticket n ∷ []) q r) end one in
    let longer : notes_of at reports ticket (take m ns) ≡ notes_of at reports ticket (take i ns) ++ note_of at reports ticket n ∷ [] =
    ap (λ (k : ℕ). notes_of at reports ticket (take k ns)) next
    ∙ (notes_next at reports ticket ns i n there is
    ∙ ap (λ (b : Bool). notes_of at reports ticket (take i ns) ++ cond b (note_of at reports ticket n ∷ []) []) succeeded)
    in
    subst (λ (cs : List Call). Notes t cs p r) (sym longer) (notes_more t (notes_of at reports ticket (take i ns)) (note_of at reports ticket n ∷ []) p q r so_far here)

-- one notice more, which didn't succeed
pub passed_next : (t : Terms) (at : ℕ) (reports : List Report) (ticket : TicketData) (ns : List NoticeData) (i m : ℕ) (n : NoticeData) (p q : Seen) → m ≡ i + 1 → i < length ns → n ≡ get_or ns i n
    → is_recorded_success ticket n ≡ false → Notes t (notes_of at reports ticket (take i ns)) p q → Notes t (notes_of at reports ticket (take m ns)) p q
passed_next t at reports ticket ns i m n p q next there is failed so_far =
    let same : notes_of at reports ticket (take m ns) ≡ notes_of at reports ticket (take i ns) =
    ap (λ (k : ℕ). notes_of at reports ticket (take k ns)) next
    ∙ (notes_next at reports ticket ns i n there is
    ∙ (ap (λ (b : Bool). notes_of at reports ticket (take i ns) ++ cond b (note_of at reports ticket n ∷ []) []) failed
    ∙ append-nil (notes_of at reports ticket (take i ns))))
    in
    subst (λ (cs : List Call). Notes t cs p q) (sym same) so_far

-- one ticket more, whose successes were noted
pub noted_ticket : (t : Terms) (at : ℕ) (reports : List Report) (ts : List TicketData) (i m : ℕ) (u : TicketData) (p q r : Seen) → m ≡ i + 1 → i < length ts → u ≡ get_or ts i u
    → Notes t (notes_of_all at reports (take i ts)) p q → Notes t (notes_of at reports u u.notices) q r → Notes t (notes_of_all at reports (take m ts)) p r
noted_ticket t at reports ts i m u p q r next there is so_far one =
    let longer : notes_of_all at reports (take m ts) ≡ notes_of_all at reports (take i ts) ++ notes_of at reports u u.notices =
    ap (λ (k : ℕ). notes_of_all at reports (take k ts)) next
    ∙ (ap (notes_of_all at reports) (take_more ts i u there ∙ ap (λ (x : TicketData). take i ts ++ x ∷ []) (sym is))
    ∙ (flat_map-append (λ (x : TicketData). notes_of at reports x x.notices) (take i ts) (u ∷ [])
    ∙ ap (λ (cs : List Call). notes_of_all at reports (take i ts) ++ cs) (append-nil (notes_of at reports u u.notices))))
    in
    subst (λ (cs : List Call). Notes t cs p r) (sym longer) (notes_more t (notes_of_all at reports (take i ts)) (notes_of at reports u u.notices) p q r so_far one)
