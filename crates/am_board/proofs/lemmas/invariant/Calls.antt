-- What a board says of a call that its state accepted or refused.
use Rattle.std.proofs.Common.{All, ◌≡◌, ℕ, ◌+◌, ◌≤◌, true, false, not, Option, Some, None, Result, Ok, Err, List, ◌++◌, length, vec_len, refl, sym, ap, ◌∙◌, subst, eq-eqb, arith, Vec, Global, if◌then◌else◌}
use Rattle.std.specs.Prelude.{◌==◌, IfOk, OnOk, OnErr, MatchResult, slice_get}
use Rattle.std.proofs.lemmas.List.{length-map}
use Rattle.std.proofs.lemmas.Bool.Decides.{nat_tests}
use Rattle.am_board.specs.declared.board.Board.TheInside.{Inside}
use Rattle.am_model.specs.declared.config.Config.{Config}
use Rattle.am_model.specs.declared.fault.Fault.{Fault}
use Rattle.am_model.specs.declared.fault.LoadFault.{LoadFault}
use Rattle.am_model.specs.declared.fault.NoteFault.{NoteFault}
use Rattle.am_model.specs.declared.fault.NoteFault.TheVariants as note
use Rattle.am_model.specs.declared.record.Call.{Call}
use Rattle.am_model.specs.declared.record.Call.TheVariants.{Note}
use Rattle.am_model.specs.declared.record.Record.{Record}
use Rattle.am_model.specs.declared.record.Reply.{Reply}
use Rattle.am_board.specs.declared.state.State as kept
use Rattle.am_board.specs.Board.{IsSound, whole}
use Rattle.am_model.specs.Causes.{is_full, notified_cause, notice_cause, flush_cause, note_cause}
use Rattle.am_model.specs.Notice.{NoticeData}
use Rattle.am_model.specs.Ticket.{TicketData, outcome_of}
use Rattle.am_board.specs.History.{BoardData, KeepsLimits, IsReplyAt, records_at, with_record, state_at}
use Rattle.am_model.specs.Records.{IsNoteOf, entry}
use Rattle.am_board.specs.Refinement.{state_of}
use Rattle.am_model.specs.Note.{is_ready, notified_by, may_note, with_note, after_note, after_note_of}
use Rattle.am_model.specs.Replay.{after, after_call, replay}
use Rattle.am_model.specs.State.{NotifiedState, FlushState, State, time, at_time, flush_numbered}
use Rattle.am_retry.specs.declared.outcome.Outcome.{Outcome}
use Rattle.am_board.specs.Step.{AppliesCall, LeavesUnchanged, IsAnswer, IsCaused, IsLoadAnswer, IsLoadCaused, IsNoteAnswer, IsNoteCaused}
use Rattle.am_model.proofs.legal.FewGroups.{IsInsert}
use Rattle.am_model.proofs.legal.FewKnown.{IsSilence, IsForget}
use Rattle.am_model.specs.Begin.{next_due}
use Rattle.am_board.proofs.lemmas.invariant.Agreeing.{row_views-agrees, group_views-agrees, next_due-agrees, preview_at-agrees, summary_at-agrees}
use Rattle.am_model.specs.Views.{row_views, group_cmp, group_view, group_views, summary_at, summary}
use Rattle.am_model.specs.Lists.{in_order}
use Rattle.am_model.specs.declared.views.GroupView.{GroupView}
use Rattle.am_model.proofs.lists.Words.{in_order-moves}
use Rattle.std.proofs.lemmas.List.Sorted.{length_permutation}
use Rattle.std.proofs.lemmas.List.Sorted.{All-permutation, IsPermutation-sym}
use Rattle.std.specs.VecDeque.{deque_len}
use Rattle.am_alerts.specs.declared.limits.TheConstants.{MAX_TIME}
use Rattle.am_model.specs.declared.views.RowView.{RowView}
use Rattle.am_model.specs.look_back.Preview.{preview_at, preview}
use Rattle.am_board.specs.LogRows.{log_rows}
use Rattle.am_model.proofs.legal.RowTimes.{rows-timely}
use Rattle.am_model.proofs.looking_back.reasons.Previews.{preview-found}
use Rattle.am_model.proofs.lists.Distinct.{all_from}
use Rattle.am_board.proofs.lemmas.invariant.Sound.{IsFew, all_counted, few_after, kept_counted, opened_now, consistent_now, returned_at, sound_then, sound_still, whole_more, whole_with}

-- a board as it is seen with this history, of which it handed out what it did
abbrev pub seen_with : Inside → List Record → BoardData
seen_with b history = record { config = b.config; id = b.id; handed = b.past.items; history = history }

-- a board as it is seen with another state
abbrev pub seen : Inside → kept.State → BoardData
seen b s = seen_with b (whole_with b s)

-- the limits, as a board's invariant has them
abbrev pub IsWithin : Config → State → kept.State → Type 0
IsWithin config after s = IsFew config after × (deque_len s.flushes ≤ config.limits.flushes) × (vec_len s.history + deque_len s.flushes ≤ config.limits.history)

-- a history that isn't full has capacity for so many records
pub space_of : (config : Config) (records : ℕ) (s : State) (more : ℕ) {X : Type 0} (full other : Option X) → (if is_full config records s more then full else other) ≡ None → (full ≡ None → ⊥)
    → (records + length s.flushes + more ≤ config.limits.history) × (other ≡ None)
space_of config records s more full other none apart =
    elim (is_full config records s more) as (λ b. is_full config records s more ≡ b → (if b then full else other) ≡ None → (records + length s.flushes + more ≤ config.limits.history) × (other ≡ None)) [
      | true ↦ λ e h. absurd (apart h)
      | false ↦ λ e h. (grind (arith, nat_tests, e), h)
    ] refl none

-- how many flushes are open after an accepted call
pub opened_then : (config : Config) (id : ℕ) (r : Record) (old new : kept.State) → AppliesCall config id r old new → deque_len new.flushes ≡ length (after config (state_of old) r).flushes
opened_then config id r old new accepts = opened_now new ∙ ap (λ (s : State). length s.flushes) accepts.state.rest

module _ (b : Inside) (sound : IsSound b) (now : BoardData) (view_is : seen b b.state ≡ now) (new : kept.State) {T E : Type 0} (pass : ℕ) (call : Call) (returned : T → Reply) (P : T → Type 0) (accepts : (x : T) → P x → AppliesCall b.config b.id (entry pass call (returned x)) b.state new) (Q : E → Type 0) where
  -- an accepted call is recorded
  pub recorded : (r : Result T E) → MatchResult r P (λ fault. Q fault × LeavesUnchanged b.config b.state new) → IfOk r (λ x. seen b new ≡ with_record now (entry pass call (returned x)))
  recorded (Ok x) h =
      subst (λ (d : BoardData). seen b new ≡ with_record d (entry pass call (returned x))) view_is
      (ap (seen_with b) (whole_more b new (entry pass call (returned x)) (accepts x h).history))
  recorded (Err fault) h = tt

  -- it returned what the definitions give
  pub returned_now : (r : Result T E) → MatchResult r P (λ fault. Q fault × LeavesUnchanged b.config b.state new) → IfOk r (λ x. IsReplyAt now call (returned x))
  returned_now (Ok x) h =
      subst (λ (d : BoardData). IsReplyAt d call (returned x)) view_is (returned_at b sound (entry pass call (returned x)) new (accepts x h))
  returned_now (Err fault) h = tt

  -- a refused call changes nothing
  pub refused : (r : Result T E) → MatchResult r P (λ fault. Q fault × LeavesUnchanged b.config b.state new) → OnErr r (seen b new ≡ now)
  refused (Ok x) h = tt
  refused (Err fault) h = ap (λ (items : List Record). seen_with b (b.past.items ++ items)) h.1.history ∙ view_is

  -- the board is sound again
  pub sound_again : IsForget call ≡ false → ((x : T) → P x → IsWithin b.config (after_call b.config (state_of b.state) call) new) → (r : Result T E) → MatchResult r P (λ fault. Q fault × LeavesUnchanged b.config b.state new) → IsSound (record b { state = new })
  sound_again keeps within (Ok x) h =
      let limits : IsWithin b.config (after_call b.config (state_of b.state) call) new = within x h in
      sound_then b sound (entry pass call (returned x)) new (accepts x h) keeps limits.0 limits.1 limits.2
  sound_again keeps within (Err fault) h = sound_still b sound new h.1

-- why a call was refused, in other words
pub caused : {T : Type 0} (cause other : Option Fault) → cause ≡ other → (P : T → Type 0) (S : Type 0) (r : Result T Fault) → MatchResult r (λ x. (cause ≡ None) × P x) (λ fault. IsAnswer cause fault × S) → IsCaused other r
caused cause other same P S (Ok x) h = subst (λ c. c ≡ None) same h.0
caused cause other same P S (Err fault) h = subst (λ c. IsAnswer c fault) same h.0

-- the same, where more is reported of an accepted call
pub caused_too : {T : Type 0} (cause other : Option Fault) → cause ≡ other → (P F : T → Type 0) (S : Type 0) (r : Result T Fault) → MatchResult r (λ x. (cause ≡ None) × P x × F x) (λ fault. IsAnswer cause fault × S) → IsCaused other r
caused_too cause other same P F S (Ok x) h = subst (λ c. c ≡ None) same h.0
caused_too cause other same P F S (Err fault) h = subst (λ c. IsAnswer c fault) same h.0

-- the same of a load
pub load_caused_by : {T : Type 0} (cause other : Option LoadFault) → cause ≡ other → (P : T → Type 0) (S : Type 0) (r : Result T LoadFault) → MatchResult r (λ x. (cause ≡ None) × P x) (λ fault. IsLoadAnswer cause fault × S) → IsLoadCaused other r
load_caused_by cause other same P S (Ok x) h = subst (λ c. c ≡ None) same h.0
load_caused_by cause other same P S (Err fault) h = subst (λ c. IsLoadAnswer c fault) same h.0

-- the same of a note
pub note_caused : {T : Type 0} (cause other : Option NoteFault) → cause ≡ other → (P : T → Type 0) (S : Type 0) (r : Result T NoteFault) → MatchResult r (λ x. (cause ≡ None) × P x) (λ fault. IsNoteAnswer cause fault × S) → IsNoteCaused other r
note_caused cause other same P S (Ok x) h = subst (λ c. c ≡ None) same h.0
note_caused cause other same P S (Err fault) h = subst (λ c. IsNoteAnswer c fault) same h.0

-- what more is reported
pub fresh_too : {T E : Type 0} (A P F : T → Type 0) (Q : E → Type 0) (r : Result T E) → MatchResult r (λ x. A x × P x × F x) Q → IfOk r F
fresh_too A P F Q (Ok x) h = h.2
fresh_too A P F Q (Err fault) h = tt

-- ---- notes

-- a note of an asked integration is accepted only where the history has capacity
notified_space : (config : Config) (records : ℕ) (s : State) (outcome : Option Outcome) (o : Option NotifiedState) → notified_cause config records s outcome o ≡ None → records + length s.flushes + 1 ≤ config.limits.history
notified_space config records s outcome None e = absurd (cc)
notified_space config records s outcome (Some a) none =
    elim (is_ready outcome a) as (λ b. (if not b then Some note.NotReady else (if a.noted then Some note.Already else (if is_full config records s 1 then Some note.HistoryFull else None))) ≡ None → records + length s.flushes + 1 ≤ config.limits.history) [
      | false ↦ λ e. absurd (cc)
      | true ↦ λ e.
          elim (a.noted) as (λ b. (if b then Some note.Already else (if is_full config records s 1 then Some note.HistoryFull else None)) ≡ None → records + length s.flushes + 1 ≤ config.limits.history) [
            | true ↦ λ e. absurd (cc)
            | false ↦ λ e. (space_of config records s 1 (Some note.HistoryFull) None e (λ h. absurd (cc))).0
          ] e
    ] none

notice_space : (config : Config) (records : ℕ) (s : State) (ticket : TicketData) (n : Option NoticeData) (f : FlushState) → notice_cause config records s ticket n f ≡ None → records + length s.flushes + 1 ≤ config.limits.history
notice_space config records s ticket None f e = absurd (cc)
notice_space config records s ticket (Some n) f e = notified_space config records s (outcome_of ticket.outcomes n.integration) (notified_by f n.integration) e

note_space : (config : Config) (records : ℕ) (s : State) (ticket : TicketData) (index : ℕ) (o : Option FlushState) → flush_cause config records s ticket index o ≡ None → records + length s.flushes + 1 ≤ config.limits.history
note_space config records s ticket index None e = absurd (cc)
note_space config records s ticket index (Some f) e = notice_space config records s ticket (slice_get ticket.notices index) f e

-- a note leaves as many flushes open
length-noted : (config : Config) (s : State) (t integration : ℕ) (outcome : Option Outcome) (o : Option FlushState) → length (after_note_of config s t integration outcome o).flushes ≡ length s.flushes
length-noted config s t integration outcome None = refl
length-noted config s t integration outcome (Some f) =
    elim (may_note integration outcome f) as (λ b. length (if b then after_note config s t integration f else at_time s t).flushes ≡ length s.flushes) [
      | true ↦ length-map s.flushes (λ (g : FlushState). if g.number == f.number then with_note integration g else g)
      | false ↦ refl
    ]

module _ (b : Inside) (sound : IsSound b) (now : BoardData) (view_is : seen b b.state ≡ now) (new : kept.State) (pass at : ℕ) (ticket : TicketData) (index : ℕ) where
  -- what an accepted note says
  abbrev IsNoted : Type 0
  IsNoted =
      (flush_cause b.config (vec_len b.state.history) (state_of b.state) ticket index (flush_numbered (state_of b.state).flushes ticket.number) ≡ None)
      × ((r : Record) × IsNoteOf pass at ticket index r × ((id : ℕ) → AppliesCall b.config id r b.state new))

  pub noted_now : {T E : Type 0} (Q : E → Type 0) (result : Result T E) → MatchResult result (λ _. IsNoted) (λ fault. Q fault × LeavesUnchanged b.config b.state new)
      → OnOk result ((r : Record) × IsNoteOf pass at ticket index r × (seen b new ≡ with_record now r) × IsReplyAt now r.call r.reply)
  noted_now Q (Ok x) h =
      let accepts = h.1.2 b.id in (
        h.1.0,
        h.1.1,
        subst (λ (d : BoardData). seen b new ≡ with_record d h.1.0) view_is (ap (seen_with b) (whole_more b new h.1.0 accepts.history)),
        subst (λ (d : BoardData). IsReplyAt d h.1.0.call h.1.0.reply) view_is (returned_at b sound h.1.0 new accepts),
      )
  noted_now Q (Err fault) h = tt

  note_within : (r : Record) → IsNoteOf pass at ticket index r → AppliesCall b.config b.id r b.state new
      → vec_len b.state.history + length (state_of b.state).flushes + 1 ≤ b.config.limits.history → IsWithin b.config (after b.config (state_of b.state) r) new
  note_within r is accepts space =
      let s : State = state_of b.state in
      let noting : Call = Note at ticket.number is.0.integration (outcome_of ticket.outcomes is.0.integration) in
      let same : length (after_call b.config s noting).flushes ≡ length s.flushes = length-noted b.config s (time s at) is.0.integration (outcome_of ticket.outcomes is.0.integration) (flush_numbered s.flushes ticket.number) in
      let opened : deque_len new.flushes ≡ length (after_call b.config s r.call).flushes = opened_then b.config b.id r b.state new accepts in
      let called : length (after_call b.config s r.call).flushes ≡ length (after_call b.config s noting).flushes = ap (λ (x : Record). length (after_call b.config s x.call).flushes) is.2 in
      let before = opened_now b.state in
      let few : IsFew b.config (after_call b.config s r.call) = few_after b sound r.call (ap (λ (x : Record). IsInsert x.call) is.2) (ap (λ (x : Record). IsSilence x.call) is.2) in
      (few, omega (arith, opened, called, same, before, sound.opened), omega (arith, opened, called, same, space, accepts.records))

  pub sound_noted : {T E : Type 0} (Q : E → Type 0) (result : Result T E) → MatchResult result (λ _. IsNoted) (λ fault. Q fault × LeavesUnchanged b.config b.state new) → IsSound (record b { state = new })
  sound_noted Q (Ok x) h =
      let accepts = h.1.2 b.id in
      let space = note_space b.config (vec_len b.state.history) (state_of b.state) ticket index (flush_numbered (state_of b.state).flushes ticket.number) h.0 in
      let limits : IsWithin b.config (after b.config (state_of b.state) h.1.0) new = note_within h.1.0 h.1.1 accepts space in
      sound_then b sound h.1.0 new accepts (ap (λ (x : Record). IsForget x.call) h.1.1.2) limits.0 limits.1 limits.2
  sound_noted Q (Err fault) h = sound_still b sound new h.1

  -- why a note isn't accepted, at the state after the history
  pub noted_caused : ticket.board_id ≡ now.id → flush_cause b.config (vec_len b.state.history) (state_of b.state) ticket index (flush_numbered (state_of b.state).flushes ticket.number) ≡ note_cause now.config now.id (records_at now) (state_at now) ticket index
  noted_caused ours =
      let replayed = replay b.config (whole b) in
      let there = flush_cause now.config (records_at now) (state_at now) ticket index (flush_numbered (state_at now).flushes ticket.number) in
      let same : flush_cause b.config (vec_len b.state.history) (state_of b.state) ticket index (flush_numbered (state_of b.state).flushes ticket.number) ≡ there =
      subst (λ (d : BoardData). flush_cause b.config (vec_len b.state.history) (state_of b.state) ticket index (flush_numbered (state_of b.state).flushes ticket.number) ≡ flush_cause d.config (records_at d) (state_at d) ticket index (flush_numbered (state_at d).flushes ticket.number)) view_is
      (ap (λ (s : State). flush_cause b.config (vec_len b.state.history) s ticket index (flush_numbered s.flushes ticket.number)) sound.agrees.rest
      ∙ ap (λ n. flush_cause b.config n replayed ticket index (flush_numbered replayed.flushes ticket.number)) (kept_counted b sound)) in
      same ∙ sym (ap (λ t. if t then there else Some note.Foreign) (eq-eqb ticket.board_id now.id ours))

-- ---- what a board shows

module _ (b : Inside) (sound : IsSound b) (now : BoardData) (view_is : seen b b.state ≡ now) where
  pub rows_at : row_views (state_of b.state) ≡ row_views (state_at now)
  rows_at =
      subst (λ (d : BoardData). row_views (state_of b.state) ≡ row_views (state_at d)) view_is
      (row_views-agrees (state_of b.state) (replay b.config (whole b)) sound.agrees (consistent_now b sound).rows)

  pub preview_now : (at : ℕ) → preview_at b.config (state_of b.state) (time (state_of b.state) at) ≡ preview now.config now.history at
  preview_now at =
      let replayed = replay b.config (whole b) in
      subst (λ (d : BoardData). preview_at b.config (state_of b.state) (time (state_of b.state) at) ≡ preview d.config d.history at) view_is
      (preview_at-agrees (state_of b.state) replayed sound.agrees (consistent_now b sound).rows b.config (time (state_of b.state) at)
      ∙ (ap (λ (s : State). preview_at b.config replayed (time s at)) sound.agrees.rest ∙ preview-found b.config b.id (whole b) at sound.legal))

  -- no row of the log is of a time after the greatest
  pub rows_timely : All (λ row. row.time ≤ MAX_TIME) (log_rows b.state.log)
  rows_timely =
      let rows = (replay b.config (whole b)).rows in
      All-permutation (λ (row : RowView). row.time ≤ MAX_TIME) rows (state_of b.state).rows (IsPermutation-sym (state_of b.state).rows rows sound.agrees.rows)
      (all_from (λ (row : RowView). row.time ≤ MAX_TIME) rows (rows-timely b.config (whole b)))

  pub groups_at : group_views (state_of b.state) ≡ group_views (state_at now)
  groups_at =
      subst (λ (d : BoardData). group_views (state_of b.state) ≡ group_views (state_at d)) view_is
      (group_views-agrees (state_of b.state) (replay b.config (whole b)) sound.agrees)

  pub due_at : next_due (state_of b.state) ≡ next_due (state_at now)
  due_at =
      subst (λ (d : BoardData). next_due (state_of b.state) ≡ next_due (state_at d)) view_is
      (next_due-agrees (state_of b.state) (replay b.config (whole b)) sound.agrees)

  pub summary_then : summary_at (b.handed + vec_len b.state.history) (state_of b.state) ≡ summary now.config now.history
  summary_then =
      subst (λ (d : BoardData). summary_at (b.handed + vec_len b.state.history) (state_of b.state) ≡ summary d.config d.history) view_is
      (summary_at-agrees (state_of b.state) (replay b.config (whole b)) sound.agrees (b.handed + vec_len b.state.history)
      ∙ ap (λ n. summary_at n (replay b.config (whole b))) (all_counted b sound))

  -- so many records were handed out
  pub handed_counted : b.handed ≡ length now.handed
  handed_counted = sound.counted ∙ ap (λ (d : BoardData). length d.handed) view_is

  -- no more groups are shown than the limit allows
  pub few_views : {E : Type 0} (result : Result (Vec GroupView Global) E) → IfOk result (λ groups. groups.items ≡ group_views (state_of b.state)) → IfOk result (λ groups. length groups.items ≤ now.config.limits.groups)
  few_views (Ok groups) shown =
      let s : State = state_of b.state in
      let count : length (group_views s) ≡ length s.groups = length-map (in_order group_cmp s.groups) group_view ∙ length_permutation s.groups (in_order group_cmp s.groups) (in_order-moves group_cmp s.groups) in
      omega (arith, ap (λ (vs : List GroupView). length vs) shown, count, sound.groups, ap (λ (d : BoardData). d.config.limits.groups) view_is)
  few_views (Err fault) shown = tt

  -- the state after the history keeps to the limits
  pub limits_kept : KeepsLimits now
  limits_kept =
      let rest = sound.agrees.rest in
      subst KeepsLimits view_is
      (record {
        names = omega (arith, ap (λ (s : State). length s.known) rest, sound.names);
        groups = omega (arith, ap (λ (s : State). length s.groups) rest, sound.groups);
        silences = omega (arith, ap (λ (s : State). length s.silences) rest, sound.silences);
        flushes = omega (arith, ap (λ (s : State). length s.flushes) rest, opened_now b.state, sound.opened);
      })
