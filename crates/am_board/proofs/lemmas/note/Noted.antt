-- A note that did its parts is the note of the definitions.
use Rattle.std.proofs.Common.{◌≡◌, ℕ, ◌+◌, ◌<◌, ◌≤◌, ◌*◌, ◌==◌, min, max, Bool, true, false, not, ◌&&◌, Option, Some, None, is_none, List, [], ◌∷◌, ◌++◌, length, map, get_or, set, refl, sym, ap, ◌∙◌, subst, arith, eqb-true, vec_len, vec_capacity, if◌then◌else◌}
use Rattle.std.specs.Prelude.{All, IsPermutation, Result, Ok, Err, is_err, OnOk, IsErr, IfErr, MatchResult, IsSome, IfSome, position, slice_get}
use Rattle.std.specs.List.{IsDistinct}
use Rattle.std.specs.Option.{option_map}
use Rattle.std.proofs.lemmas.Bool.{lt-ltb}
use Rattle.std.proofs.lemmas.List.{length-map, get_or-map, map-set, get_or_default}
use Rattle.std.proofs.lemmas.List.Elements.{All-set, All-weaker}
use Rattle.std.proofs.lemmas.List.Quantifiers.{position-Some}
use Rattle.std.proofs.lemmas.List.Sorted.{IsPermutation-refl}
use Rattle.std.specs.VecDeque.{deque_len}
use Rattle.am_alerts.specs.declared.limits.TheConstants.{MAX_TIME}
use Rattle.am_alerts.specs.declared.labels.Label.{Label}
use Rattle.am_nflog.specs.Log.{Slots}
use Rattle.am_model.specs.Causes.{is_full, notified_cause, flush_cause}
use Rattle.am_model.specs.Configured.{route_of}
use Rattle.am_model.specs.Notice.{NoticeData}
use Rattle.am_model.specs.Ticket.{TicketData}
use Rattle.am_model.specs.Finish.{row_at, log_with}
use Rattle.am_board.specs.Group.{names_of, AreRouted}
use Rattle.am_model.specs.Records.{entry}
use Rattle.am_board.specs.GroupList.{GroupList}
use Rattle.am_board.specs.Refinement.{IsNotified, IsPrepared, EqualUpToRowOrder, notified_state_of, flush_state, group_state, stamped, state_of}
use Rattle.am_board.specs.LogRows.{log_rows}
use Rattle.am_model.specs.Laws.{IsHeld, same_notified}
use Rattle.am_model.specs.Lists.{changed_where}
use Rattle.am_board.specs.Finishing.{row_for, without_sets, KnowTheSame, IsReadyAt, IsNotedAt}
use Rattle.am_model.specs.Note.{is_ready, notified_by, may_be_noted, may_note, as_noted, with_note, after_note, after_note_of, noted}
use Rattle.am_board.specs.Noting.{IsNoteTarget}
use Rattle.am_model.specs.State.{is_flushing, NotifiedState, at_time, time, flush_numbered}
use Rattle.am_board.specs.Step.{StateInvariant, AppliesCall, IsNoteAnswer}
use Rattle.am_model.specs.declared.config.Config.{Config}
use Rattle.am_model.specs.declared.fault.NoteFault.{NoteFault}
use Rattle.am_model.specs.declared.fault.NoteFault.TheVariants as note
use Rattle.am_board.specs.declared.flush.Notified.{Notified}
use Rattle.am_board.specs.declared.flush.OpenFlush.{OpenFlush}
use Rattle.am_model.specs.declared.group.GroupName.{GroupName}
use Rattle.am_board.specs.declared.note.NoteTarget.{NoteTarget}
use Rattle.am_model.specs.declared.record.Call.TheVariants.{Note}
use Rattle.am_model.specs.declared.record.Record.{Record}
use Rattle.am_model.specs.declared.record.Reply.TheVariants as replies
use Rattle.am_board.specs.declared.state.State as kept
use Rattle.am_model.specs.declared.views.RowView.{RowView}
use Rattle.am_model.proofs.lists.Alone.{IsAlone, changed_where-alone, alone-distinct}
use Rattle.am_board.proofs.lemmas.finish.Flushes.{open-alone, at_index, row_for-prepared, all_prepared, prepared-of, open-prepared}
use Rattle.am_board.proofs.lemmas.note.Noting.{notified-found, flush-found, notice-found}
use Rattle.am_model.proofs.states.Alike.{same_notified_equiv}
use Rattle.am_board.specs.Marks.{is_marked, marks_of}
use Rattle.am_board.proofs.lemmas.invariant.OpenFlushes.{flushing_set}

-- ---- an element that an index is of

pub element : {X : Type 0} (test : X → Bool) (xs : List X) (i : ℕ) → position test xs ≡ Some i → (x : X) × (i < length xs) × (x ≡ get_or xs i x)
element test [] i at = absurd (cc)
element test (x ∷ xs) i at =
    let within = (position-Some test (x ∷ xs) i x at).0 in
    (get_or (x ∷ xs) i x, within, get_or_default (x ∷ xs) i x (get_or (x ∷ xs) i x) within)

some-there : {X : Type 0} (o : Option X) → IsSome o → is_none o ≡ false
some-there o h = ap not h

-- ---- a refusal

-- whether the history is full, as it is counted
pub full-of : (config : Config) (s : kept.State) → (vec_len s.history + deque_len s.flushes + 1 ≤ config.limits.history → ⊥) → is_full config (vec_len s.history) (state_of s) 1 ≡ true
full-of config s none =
    let counted = length-map s.flushes.items flush_state in
    let len = s.flushes.ok.0 in
    let some : config.limits.history < vec_len s.history + length (map flush_state s.flushes.items) + 1 = omega (arith, counted, len, none) in
    lt-ltb config.limits.history (vec_len s.history + length (map flush_state s.flushes.items) + 1) some

-- ---- what a note finds

module _ (config : Config) (s : kept.State) (ticket : TicketData) (index : ℕ) (n : NoteTarget) (found : IsNoteTarget s.flushes.items ticket index n) (o : OpenFlush) (is : o ≡ get_or s.flushes.items n.flush o) where
  ready-at : IsReadyAt o n.integration n.outcome n.notified
  ready-at = subst (λ x. IsReadyAt x n.integration n.outcome n.notified) (sym is) (found.ready o)

  pub number-is : o.number ≡ ticket.number
  number-is = ap (λ (f : OpenFlush). f.number) is ∙ eqb-true (get_or s.flushes.items n.flush o).number ticket.number (position-Some (λ (f : OpenFlush). f.number == ticket.number) s.flushes.items n.flush o found.first).1

  open-there : flush_numbered (map flush_state s.flushes.items) ticket.number ≡ Some (flush_state o)
  open-there = flush-found s.flushes.items ticket.number n.flush o found.first ∙ ap (λ f. Some (flush_state f)) (sym is)

  may : (d : Notified) → (is_ready n.outcome (notified_state_of (get_or o.notified.items n.notified d)) ≡ true) × (is_none (get_or o.notified.items n.notified d).sets ≡ false)
  may d = (ready-at.ready d, some-there (get_or o.notified.items n.notified d).sets (ready-at.sets d))

  pub may-note : may_note n.integration n.outcome (flush_state o) ≡ true
  may-note =
      let d = (element (λ (x : Notified). x.key.integration == n.integration) o.notified.items n.notified ready-at.index).0 in
      ap (may_be_noted n.outcome) (notified-found o n.integration n.notified d ready-at.index) ∙ (λ i. (may d).0 i && not ((may d).1 i))

  -- why it is refused at most: the history is full
  pub cause-left : flush_cause config (vec_len s.history) (state_of s) ticket index (flush_numbered (map flush_state s.flushes.items) ticket.number) ≡ (if is_full config (vec_len s.history) (state_of s) 1 then Some note.HistoryFull else None)
  cause-left =
      let d = (element (λ (x : Notified). x.key.integration == n.integration) o.notified.items n.notified ready-at.index).0 in
      ap (flush_cause config (vec_len s.history) (state_of s) ticket index) open-there
      ∙ notice-found config (vec_len s.history) (state_of s) ticket (flush_state o) (slice_get ticket.notices index) n.integration found.notice
      ∙ ap (λ outcome. notified_cause config (vec_len s.history) (state_of s) outcome (notified_by (flush_state o) n.integration)) (sym found.outcome)
      ∙ ap (notified_cause config (vec_len s.history) (state_of s) n.outcome) (notified-found o n.integration n.notified d ready-at.index)
      ∙ (λ i. if not ((may d).0 i) then Some note.NotReady else (if (may d).1 i then Some note.Already else (if is_full config (vec_len s.history) (state_of s) 1 then Some note.HistoryFull else None)))

-- ---- what the parts of a note did

-- the clock was set, the integration noted, and its row put
pub record IsNoted (old new : kept.State) (o onew : OpenFlush) (f a now : ℕ) (r : Record) : Type 0 where
  pub clock : new.clock ≡ max old.clock (min now MAX_TIME)
  pub inserts : new.inserts ≡ old.inserts
  pub known : new.known ≡ old.known
  pub groups : new.groups ≡ old.groups
  pub silences : new.silences ≡ old.silences
  pub keys : KnowTheSame new.log old.log
  pub noted : IsNotedAt a o onew
  pub rows : (d : Notified) → IsSome (get_or o.notified.items a d).sets → (rows : List RowView) → IsPermutation (log_rows old.log) rows
      → IsPermutation (log_rows new.log) (log_with (row_for o new.clock (get_or o.notified.items a d).key.integration) rows)
  pub flushes : new.flushes.items ≡ set old.flushes.items f onew
  pub opened : deque_len new.flushes ≡ deque_len old.flushes
  pub next_number : new.next_number ≡ old.next_number
  pub history : new.history.items ≡ old.history.items ++ r ∷ []
  pub records : vec_len new.history ≡ vec_len old.history + 1
  pub space : vec_len new.history + deque_len new.flushes ≤ vec_capacity new.history

-- the integration at an index of a flush, where no two are one
module _ (o : OpenFlush) (integration a : ℕ) (d : Notified) (at : position (λ x. x.key.integration == integration) o.notified.items ≡ Some a) (once : IsDistinct same_notified (map notified_state_of o.notified.items)) where
  integration-is : (get_or o.notified.items a d).key.integration ≡ integration
  integration-is = eqb-true (get_or o.notified.items a d).key.integration integration (position-Some (λ (x : Notified). x.key.integration == integration) o.notified.items a d at).1

  notified-at : get_or (map notified_state_of o.notified.items) a (notified_state_of d) ≡ notified_state_of (get_or o.notified.items a d)
  notified-at = get_or-map notified_state_of o.notified.items a d (notified_state_of d) (position-Some (λ (x : Notified). x.key.integration == integration) o.notified.items a d at).0

  notified-alone : IsAlone (λ x. x.integration == integration) (map notified_state_of o.notified.items) a
  notified-alone =
      alone-distinct same_notified same_notified_equiv (λ x. x.integration == integration) (map notified_state_of o.notified.items) a (notified_state_of d)
      (omega (arith, length-map o.notified.items notified_state_of, (position-Some (λ (x : Notified). x.key.integration == integration) o.notified.items a d at).0)) once
      (λ y. ap (λ i. y.integration == i) (sym integration-is) ∙ same_notified_equiv.symm y (notified_state_of (get_or o.notified.items a d)) ∙ ap (λ (x : NotifiedState). x.integration == y.integration) (sym notified-at))

  notified-noted : map notified_state_of (set o.notified.items a (without_sets (get_or o.notified.items a d))) ≡ changed_where (λ x. x.integration == integration) as_noted (map notified_state_of o.notified.items)
  notified-noted =
      map-set notified_state_of o.notified.items a (without_sets (get_or o.notified.items a d))
      ∙ ap (λ x. set (map notified_state_of o.notified.items) a (as_noted x)) (sym notified-at)
      ∙ sym (changed_where-alone (λ x. x.integration == integration) as_noted (map notified_state_of o.notified.items) a (notified_state_of d) notified-alone)

  pub flush-noted : (onew : OpenFlush) → IsNotedAt a o onew → flush_state onew ≡ with_note integration (flush_state o)
  flush-noted onew noted =
      let notified : map notified_state_of onew.notified.items ≡ changed_where (λ x. x.integration == integration) as_noted (map notified_state_of o.notified.items) = ap (map notified_state_of) (noted.notified d) ∙ notified-noted in
      λ i. record {
        number = noted.number i;
        group = noted.group i;
        notified = notified i;
        firing = (noted.sets i).firing;
        resolved = (noted.sets i).resolved;
        leaving = map stamped ((noted.leaving i).items);
      }

-- the flush stays prepared
notified-without : (log : Slots GroupName (List Label)) (o onew : OpenFlush) (x : Notified) → onew.group ≡ o.group → IsNotified log o x → IsNotified log onew (without_sets x)
notified-without log o onew x group notified = record { group = notified.group ∙ sym group; known = notified.known; sets = tt }

notified-still : (log : Slots GroupName (List Label)) (o onew : OpenFlush) (x : Notified) → onew.group ≡ o.group → onew.sets ≡ o.sets → IsNotified log o x → IsNotified log onew x
notified-still log o onew x group sets notified = record { group = notified.group ∙ sym group; known = notified.known; sets = subst (λ t. IfSome x.sets (λ u. u ≡ t)) (sym sets) notified.sets }

pub prepared-noted : (config : Config) (log : Slots GroupName (List Label)) (o onew : OpenFlush) (a : ℕ) (d : Notified) → a < length o.notified.items → IsNotedAt a o onew → IsPrepared config log o → IsPrepared config log onew
prepared-noted config log o onew a d within noted ready =
    record {
      kept_for = noted.kept_for ∙ ready.kept_for ∙ ap (λ g. min config.retention (2 * (route_of config g).repeat_interval)) (sym noted.group);
      notified = subst (All (IsNotified log onew)) (sym (noted.notified d))
          (All-set (IsNotified log onew) o.notified.items a (without_sets (get_or o.notified.items a d)) (notified-without log o onew (get_or o.notified.items a d) noted.group (ready.notified a d within))
          (All-weaker (IsNotified log o) (IsNotified log onew) (λ x. notified-still log o onew x noted.group noted.sets) o.notified.items ready.notified));
    }

module _ (config : Config) (id : ℕ) (old new : kept.State) (ticket : TicketData) (index : ℕ) (n : NoteTarget) (found : IsNoteTarget old.flushes.items ticket index n) (o onew : OpenFlush) (is : o ≡ get_or old.flushes.items n.flush o) (good : StateInvariant config old) (pass now : ℕ) where
  abbrev r : Record
  r = entry pass (Note now ticket.number n.integration n.outcome) replies.Noted

  within : n.flush < length old.flushes.items
  within = (position-Some (λ (f : OpenFlush). f.number == ticket.number) old.flushes.items n.flush o found.first).0

  notified-ready : IsReadyAt o n.integration n.outcome n.notified
  notified-ready = ready-at config old ticket index n found o is

  held : IsHeld (state_of old) (flush_state o)
  held = subst (IsHeld (state_of old)) (at_index config old n.flush o within is good) (good.consistent.held n.flush (flush_state o) (omega (arith, length-map old.flushes.items flush_state, within)))

  returned : noted n.integration n.outcome (flush_numbered (map flush_state old.flushes.items) ticket.number) ≡ Some replies.Noted
  returned = ap (noted n.integration n.outcome) (open-there config old ticket index n found o is) ∙ ap (λ b. if b then Some replies.Noted else None) (may-note config old ticket index n found o is)

  state : (d : Notified) → IsNoted old new o onew n.flush n.notified now r → EqualUpToRowOrder (state_of new) (after_note config (state_of old) (time (state_of old) now) n.integration (flush_state o))
  state d done =
      let ready = open-prepared config old n.flush o within is good in
      let noted = flush-noted o n.integration n.notified d notified-ready.index held.each_once onew done.noted in
      let flushes : map flush_state new.flushes.items ≡ changed_where (λ g. g.number == o.number) (with_note n.integration) (map flush_state old.flushes.items) =
      ap (map flush_state) done.flushes
      ∙ map-set flush_state old.flushes.items n.flush onew
      ∙ ap (set (map flush_state old.flushes.items) n.flush) (noted ∙ ap (with_note n.integration) (sym (at_index config old n.flush o within is good)))
      ∙ sym (changed_where-alone (λ g. g.number == o.number) (with_note n.integration) (map flush_state old.flushes.items) n.flush (flush_state o) (open-alone config old n.flush o within is good)) in
      let row : row_for o new.clock (get_or o.notified.items n.notified d).key.integration ≡ row_at config (time (state_of old) now) (flush_state o) n.integration =
      ap (row_for o new.clock) (integration-is o n.integration n.notified d notified-ready.index held.each_once)
      ∙ row_for-prepared config old.log o ready new.clock n.integration
      ∙ ap (λ t. row_at config t (flush_state o) n.integration) done.clock in
      record {
        rows = subst (λ row. IsPermutation (log_rows new.log) (log_with row (log_rows old.log))) row (done.rows d (notified-ready.sets d) (log_rows old.log) (IsPermutation-refl (log_rows old.log)));
        rest = λ i. record {
          clock = done.clock i;
          inserts = done.inserts i;
          known = (done.known i).items;
          groups = map group_state ((done.groups i).items);
          silences = (done.silences i).items;
          rows = log_rows new.log;
          flushes = flushes i;
          next_number = done.next_number i;
        };
      }

  pub note-accepted : IsNoted old new o onew n.flush n.notified now r → AppliesCall config id r old new
  note-accepted done =
      let ready = open-prepared config old n.flush o within is good in
      let there = element (λ (x : Notified). x.key.integration == n.integration) o.notified.items n.notified notified-ready.index in
      let d = there.0 in
      record {
        returned = returned;
        state = subst (λ f. EqualUpToRowOrder (state_of new) (after_note_of config (state_of old) (time (state_of old) now) n.integration n.outcome f)) (sym (open-there config old ticket index n found o is))
            (subst (λ b. EqualUpToRowOrder (state_of new) (if b then after_note config (state_of old) (time (state_of old) now) n.integration (flush_state o) else at_time (state_of old) (time (state_of old) now))) (sym (may-note config old ticket index n found o is)) (state d done));
        routed = subst (λ (groups : GroupList). AreRouted config.routes (names_of groups.items)) (sym done.groups) good.routed;
        prepared = subst (All (IsPrepared config new.log)) (sym done.flushes)
            (All-set (IsPrepared config new.log) old.flushes.items n.flush onew (prepared-noted config new.log o onew n.notified d there.1 done.noted (prepared-of config old.log new.log o done.keys ready)) (all_prepared config old.log new.log old.flushes.items done.keys good.prepared));
        marked = λ name.
            ap (λ (groups : GroupList). is_marked (marks_of groups.items) name) done.groups
            ∙ (good.marked name ∙ sym (ap (λ fs. is_flushing (map flush_state fs) name) done.flushes ∙ flushing_set old.flushes.items n.flush onew o is done.noted.group name));
        history = done.history;
        records = done.records;
        space = done.space;
      }

-- ---- answers

pub answers : (o : Option NoteFault) (fault : NoteFault) → o ≡ Some fault → IsNoteAnswer o fault
answers o fault is = subst (λ x. IsNoteAnswer x fault) (sym is) refl

pub refused : {A : Type 0} (r : Result A NoteFault) (P : A → Type 0) (cause : Option NoteFault) (S : Type 0) → IsErr r → IfErr r (λ fault. cause ≡ Some fault) → S → MatchResult r P (λ fault. IsNoteAnswer cause fault × S)
refused (Ok a) P cause S err is stays = absurd (cc)
refused (Err fault) P cause S err is stays = (answers cause fault is, stays)

-- the notice that is noted
pub the_notice : (o : Option NoticeData) (integration : ℕ) → option_map (λ (n : NoticeData). n.integration) o ≡ Some integration → (n : NoticeData) × (o ≡ Some n) × (n.integration ≡ integration)
the_notice None integration is = absurd (cc)
the_notice (Some n) integration is = (n, refl, cc)

-- what holds on a success that wasn't refused
pub on-ok : {A E : Type 0} (r : Result A E) (P : Type 0) → OnOk r P → is_err r ≡ false → P
on-ok (Ok a) P h e = h
on-ok (Err x) P h e = absurd (cc)
