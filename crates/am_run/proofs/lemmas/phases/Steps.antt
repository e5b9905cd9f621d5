-- The records that the main thread's pass makes.
use Rattle.std.proofs.Common.{◌≡◌, ◌≢◌, inl, inr, ⊎_elim, ℕ, Bool, true, false, true≢false, All, subst, List, [], ◌∷◌, ◌++◌, map, length, ◌+◌, Some, None, arith, refl, sym, ap, ◌∙◌, append_assoc}
use mathlib.Core.List.{IsPrefix}
use Rattle.std.proofs.lemmas.Grind.{flat_map-append}
use Rattle.std.proofs.lemmas.List.{append-nil, length_push, map-append}
use Rattle.std.proofs.lemmas.List.Elements.{All-append, All-cons, All-nil}
use Rattle.am_model.specs.Records.{entry}
use Rattle.am_model.specs.Replay.{replay}
use Rattle.am_model.specs.Ticket.{TicketData}
use Rattle.am_model.specs.declared.fault.Fault.TheVariants as fault
use Rattle.am_model.specs.declared.record.Call.TheVariants as call
use Rattle.am_model.specs.declared.record.Record.{Record}
use Rattle.am_model.specs.declared.record.Reply.{Reply}
use Rattle.am_model.specs.declared.record.Reply.TheVariants as reply
use Rattle.am_desk.specs.Calls.{Called, cause_of_begin}
use Rattle.am_desk.specs.History.{own}
use Rattle.am_desk.specs.Known.{Observes, Seen}
use Rattle.am_desk.specs.declared.word.Terms.{Terms}
use Rattle.am_board.proofs.lemmas.invariant.Calls.{space_of}
use Rattle.am_desk.proofs.Prefixes.{prefix_length, prefix_self, prefix_snoc, prefix_trans}
use Rattle.am_run.specs.Steps.{Begins, FinishesOne, Grows, IsUnrecorded, MadeRecords, opened_of}
use Rattle.am_run.specs.Turns.{BeginsExhausted, EndsWithNothingDue, FoundDue, FailsTooManyOpen, Opened, opened_by, opened_in}

pub no_records : (p : Seen) → MadeRecords [] p p
no_records p = (refl, sym (append-nil (own p.number p.log)), prefix_self p.log)

-- a pass that is as it was
pub same_records : (p q : Seen) → q ≡ p → MadeRecords [] p q
same_records p q same = subst (λ (x : Seen). MadeRecords [] p x) (sym same) (no_records p)

-- a pass that looked
pub looked_records : (t : Terms) (p q : Seen) → Observes t p q → MadeRecords [] p q
looked_records t p q looks = (ap (λ (s : Seen). s.number) looks.same, looks.own ∙ sym (append-nil (own p.number p.log)), looks.begins)

-- a pass whose call was accepted
pub one_record : (t : Terms) (p q : Seen) (Allowed : List Record → Type 0) (r : Record) → Called t p Allowed r q → MadeRecords (r ∷ []) p q
one_record t p q Allowed r c =
    (ap (λ (s : Seen). s.number) c.sees, c.own, subst (λ (s : Seen). IsPrefix p.log s.log) (sym c.sees) (prefix_snoc p.log c.found r c.begins))

-- what was made first, and what was made then
pub more_records : (rs ss : List Record) (p q r : Seen) → MadeRecords rs p q → MadeRecords ss q r → MadeRecords (rs ++ ss) p r
more_records rs ss p q r first then =
    let same : own p.number r.log ≡ own p.number q.log ++ ss = subst (λ (n : ℕ). own n r.log ≡ own n q.log ++ ss) first.0 then.1 in (
      then.0 ∙ first.0,
      same ∙ (ap (λ (xs : List Record). xs ++ ss) first.1 ∙ append_assoc (own p.number p.log) rs ss),
      prefix_trans p.log q.log r.log first.2 then.2,
    )

all_one : {X : Type 0} (P : X → Type 0) (x : X) → P x → All P (x ∷ [])
all_one P x is = All-cons P x [] is (All-nil P)

-- an accepted finish
pub one_finish : (t : Terms) (p q : Seen) (Allowed : List Record → Type 0) (now : ℕ) (ticket : TicketData) (returned : Reply)
    → Called t p Allowed (entry p.number (call.Finish now ticket.number ticket.outcomes) returned) q → FinishesOne now ticket p q
one_finish t p q Allowed now ticket returned called = (entry p.number (call.Finish now ticket.number ticket.outcomes) returned, one_record t p q Allowed _ called, refl)

-- begins that were made before these, which all found a group due
exhausted_more : (t : Terms) (at : ℕ) (front xs ys : List Record) → All FoundDue xs → BeginsExhausted t at front ys
    → BeginsExhausted t at front (xs ++ ys)
exhausted_more t at front xs ys found then =
    ⊎_elim
    (λ (nothing : EndsWithNothingDue ys).
    inl (
      xs ++ nothing.0,
      nothing.1,
      ap (λ (rs : List Record). xs ++ rs) nothing.2 ∙ sym (append_assoc xs nothing.0 (nothing.1 ∷ [])),
      All-append FoundDue xs nothing.0 found nothing.3,
      nothing.4,
    ))
    (λ (many : All FoundDue ys × FailsTooManyOpen t at front). inr (All-append FoundDue xs ys found many.0, many.1))
    then

-- a begin that wasn't asked for
not_requested : (flush : Bool) → flush ≡ false → flush ≡ true → ⊥
not_requested flush unset set = true≢false (sym set ∙ unset)

-- an accepted begin leaves a record, for which there was capacity
pub begin_grows : (t : Terms) (at : ℕ) (p q : Seen) (r : Record) → Called t p (λ h. cause_of_begin t at h ≡ None) r q → Grows t p q
begin_grows t at p q r c =
    let space = (space_of t.config (length c.found) (replay t.config c.found) 2 (Some fault.HistoryFull) _ c.allowed (λ h. absurd (cc))).0 in
    let longer : length q.log ≡ length c.found + 1 = ap (λ (s : Seen). length s.log) c.sees ∙ length_push c.found r in
    (omega (arith, prefix_length p.log c.found c.begins, longer), omega (arith, space, longer))

-- no flush was asked for, and nothing was done
pub begins_none : (t : Terms) (flush : Bool) (at : ℕ) (p q : Seen) (ts us : List TicketData) → flush ≡ false → us ≡ ts → MadeRecords [] p q → Begins t flush false at p q ts us
begins_none t flush at p q ts us none same made =
    record {
      begins = [];
      made = made;
      begun = All-nil (λ (r : Record). (flush ≡ true) × (r.call ≡ call.Begin at));
      found = λ more. absurd (true≢false (sym more));
      ended = λ requested end. absurd (not_requested flush none requested);
      opened = ap (map opened_of) same ∙ sym (append-nil (map opened_of ts));
      unrecorded = subst (λ (xs : List TicketData). All IsUnrecorded ts → All IsUnrecorded xs) (sym same) (λ all. all);
    }

-- the limit of open flushes is reached
pub begins_full : (t : Terms) (at : ℕ) (p q : Seen) (ts us : List TicketData) → us ≡ ts → Observes t p q → cause_of_begin t at q.log ≡ Some fault.TooManyOpen → Begins t true false at p q ts us
begins_full t at p q ts us same looks why =
    record {
      begins = [];
      made = looked_records t p q looks;
      begun = All-nil (λ (r : Record). (true ≡ true) × (r.call ≡ call.Begin at));
      found = λ more. absurd (true≢false (sym more));
      ended = λ requested end. inr (All-nil FoundDue, why);
      opened = ap (map opened_of) same ∙ sym (append-nil (map opened_of ts));
      unrecorded = subst (λ (xs : List TicketData). All IsUnrecorded ts → All IsUnrecorded xs) (sym same) (λ all. all);
    }

-- a begin that finds no group due
pub begins_nothing : (t : Terms) (at : ℕ) (p q : Seen) (ts us : List TicketData) → us ≡ ts → MadeRecords (entry p.number (call.Begin at) reply.NothingDue ∷ []) p q → Begins t true false at p q ts us
begins_nothing t at p q ts us same made =
    let r = entry p.number (call.Begin at) reply.NothingDue in
    record {
      begins = r ∷ [];
      made = made;
      begun = all_one (λ (x : Record). (true ≡ true) × (x.call ≡ call.Begin at)) r (refl, refl);
      found = λ more. absurd (true≢false (sym more));
      ended = λ requested end. inl ([], r, refl, All-nil FoundDue, refl);
      opened = ap (map opened_of) same ∙ sym (append-nil (map opened_of ts));
      unrecorded = subst (λ (xs : List TicketData). All IsUnrecorded ts → All IsUnrecorded xs) (sym same) (λ all. all);
    }

-- a begin that takes a group and opens no flush
pub begins_quiet : (t : Terms) (at : ℕ) (p q : Seen) (ts us : List TicketData) (returned : Reply) → returned ≢ reply.NothingDue → opened_in returned ≡ [] → us ≡ ts
    → MadeRecords (entry p.number (call.Begin at) returned ∷ []) p q → Begins t true true at p q ts us
begins_quiet t at p q ts us returned found none same made =
    let r = entry p.number (call.Begin at) returned in
    record {
      begins = r ∷ [];
      made = made;
      begun = all_one (λ (x : Record). (true ≡ true) × (x.call ≡ call.Begin at)) r (refl, refl);
      found = λ more. all_one FoundDue r found;
      ended = λ requested end. absurd (true≢false end);
      opened = ap (map opened_of) same ∙ (sym (append-nil (map opened_of ts)) ∙ ap (λ (os : List Opened). map opened_of ts ++ (os ++ [])) (sym none));
      unrecorded = subst (λ (xs : List TicketData). All IsUnrecorded ts → All IsUnrecorded xs) (sym same) (λ all. all);
    }

-- a begin that opens a flush, whose ticket comes last
pub begins_flush : (t : Terms) (at : ℕ) (p q : Seen) (ts us : List TicketData) (u : TicketData) (returned : Reply) → us ≡ ts ++ u ∷ [] → u.outcomes ≡ [] → returned ≢ reply.NothingDue
    → opened_in returned ≡ opened_of u ∷ [] → MadeRecords (entry p.number (call.Begin at) returned ∷ []) p q → Begins t true true at p q ts us
begins_flush t at p q ts us u returned more fresh found one made =
    let r = entry p.number (call.Begin at) returned in
    record {
      begins = r ∷ [];
      made = made;
      begun = all_one (λ (x : Record). (true ≡ true) × (x.call ≡ call.Begin at)) r (refl, refl);
      found = λ _. all_one FoundDue r found;
      ended = λ requested end. absurd (true≢false end);
      opened = ap (map opened_of) more ∙ (map-append opened_of ts (u ∷ []) ∙ ap (λ (os : List Opened). map opened_of ts ++ (os ++ [])) (sym one));
      unrecorded = λ all. subst (λ (xs : List TicketData). All IsUnrecorded xs) (sym more) (All-append IsUnrecorded ts (u ∷ []) all (all_one IsUnrecorded u fresh));
    }

-- begins that were asked for, where no ticket was there
pub begins_requested : (t : Terms) (flush : Bool) (at : ℕ) (p q : Seen) (ts none us : List TicketData) → ts ≡ none → flush ≡ true → Begins t true false at p q ts us
    → Begins t flush false at p q none us
begins_requested t flush at p q ts none us same requested begins =
    subst (λ (b : Bool). Begins t b false at p q none us) (sym requested) (subst (λ (xs : List TicketData). Begins t true false at p q xs us) same begins)

-- no begin so far
pub begins_start : (t : Terms) (at : ℕ) (p : Seen) (ts : List TicketData) → Begins t true true at p p ts ts
begins_start t at p ts =
    record {
      begins = [];
      made = no_records p;
      begun = All-nil (λ (r : Record). (true ≡ true) × (r.call ≡ call.Begin at));
      found = λ more. All-nil FoundDue;
      ended = λ requested end. absurd (true≢false end);
      opened = sym (append-nil (map opened_of ts));
      unrecorded = λ all. all;
    }

pub begins_more : (t : Terms) (more : Bool) (at : ℕ) (p q r : Seen) (ts us vs : List TicketData) → Begins t true true at p q ts us → Begins t true more at q r us vs
    → Begins t true more at p r ts vs
begins_more t more at p q r ts us vs first then =
    record {
      begins = first.begins ++ then.begins;
      made = more_records first.begins then.begins p q r first.made then.made;
      begun = All-append (λ (x : Record). (true ≡ true) × (x.call ≡ call.Begin at)) first.begins then.begins first.begun then.begun;
      found = λ m. All-append FoundDue first.begins then.begins (first.found refl) (then.found m);
      ended = λ requested end. exhausted_more t at r.log first.begins then.begins (first.found refl) (then.ended requested end);
      opened =
          then.opened
          ∙ (ap (λ (os : List Opened). os ++ opened_by then.begins) first.opened
          ∙ (append_assoc (map opened_of ts) (opened_by first.begins) (opened_by then.begins)
          ∙ ap (λ (os : List Opened). map opened_of ts ++ os) (sym (flat_map-append (λ (x : Record). opened_in x.reply) first.begins then.begins))));
      unrecorded = λ all. then.unrecorded (first.unrecorded all);
    }
