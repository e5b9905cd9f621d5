-- No accepted call passes a limit, and each cause of a refusal is one at the state after the history.
use Rattle.std.proofs.Common.{◌≡◌, ◌≢◌, ℕ, ◌+◌, ◌≤◌, true, false, ◌&&◌, nat_le, Option, Some, None, Result, Ok, Err, List, [], ◌∷◌, ◌++◌, length, vec_len, refl, sym, ap, ◌∙◌, subst, ⊎_elim, arith, if◌then◌else◌}
use Rattle.std.specs.Prelude.{IfErr}
use Rattle.std.specs.Option.{option_or}
use Rattle.std.proofs.lemmas.Bool.Decides.{nat_tests}
use Rattle.std.proofs.lemmas.List.{length-append}
use Rattle.am_alerts.specs.AlertData.{AlertData}
use Rattle.am_mute.specs.Silence.{SilenceData}
use Rattle.am_board.specs.declared.board.Board.TheInside.{Inside}
use Rattle.am_model.specs.declared.fault.Fault.{Fault}
use Rattle.am_model.specs.declared.fault.Fault.TheVariants.{NoMemory, HistoryFull, TooManyAlerts, TooManyGroups, TooManySilences, TooManyOpen}
use Rattle.am_model.specs.declared.record.Call.{Call}
use Rattle.am_model.specs.declared.record.Call.TheVariants.{Insert, Begin, Maintain, RemoveEmptyGroups, Forget, Load}
use Rattle.am_model.specs.declared.fault.LoadFault.{LoadFault}
use Rattle.am_model.specs.declared.fault.LoadFault.TheVariants as load
use Rattle.am_model.specs.declared.record.EmptyGroupsRemoved.{EmptyGroupsRemoved}
use Rattle.am_model.specs.declared.record.Forgotten.{Forgotten}
use Rattle.am_model.specs.declared.record.Inserted.{Inserted}
use Rattle.am_model.specs.declared.record.Loaded.{Loaded}
use Rattle.am_model.specs.declared.record.Maintained.{Maintained}
use Rattle.am_model.specs.declared.record.Reply.{Reply}
use Rattle.am_model.specs.declared.record.Reply.TheVariants as replies
use Rattle.am_model.specs.declared.record.Silenced.{Silenced}
use Rattle.am_model.specs.declared.views.RowView.{RowView}
use Rattle.am_board.specs.declared.state.State as kept
use Rattle.am_board.specs.declared.begin.Begun.{Begun}
use Rattle.am_model.specs.declared.config.Config.{Config}
use Rattle.am_model.specs.declared.config.Integration.{Integration}
use Rattle.am_model.specs.declared.config.Limits.{Limits}
use Rattle.am_board.specs.Board.{IsSound, whole}
use Rattle.am_model.specs.Begin.{taken, notified_of, flush_notifying, after_notifying, after_taking}
use Rattle.am_model.specs.Causes.{is_alert_too_many, is_silence_too_many, insert_cause, silence_cause, begin_cause, maintain_cause, removal_cause, forget_cause, load_cause, row_cause, is_full, notifies_some, opens_by}
use Rattle.am_board.specs.History.{BoardData, records_at, state_at, reply_of}
use Rattle.am_model.specs.Records.{call_of_silence, entry}
use Rattle.am_board.specs.Refinement.{state_of}
use Rattle.am_model.specs.Insert.{same_alert}
use Rattle.am_model.specs.Replay.{replay, after_call}
use Rattle.am_model.specs.Maintenance.{same_silence}
use Rattle.am_model.specs.State.{GroupState, State, time}
use Rattle.am_board.specs.Step.{AppliesCall, IsAnswer, IsCaused}
use Rattle.am_board.proofs.lemmas.invariant.Agreeing.{insert_cause-agrees, silence_cause-agrees, maintain_cause-agrees, removal_cause-agrees, forget_cause-agrees, load_cause-agrees, begin_cause-agrees}
use Rattle.am_model.proofs.legal.FewGroups.{few_inserted}
use Rattle.am_model.proofs.legal.FewKnown.{fits-upsert, neither_cause}
use Rattle.am_model.proofs.legal.NeverWait.{flushes_never_wait}
use Rattle.am_board.proofs.lemmas.invariant.Calls.{IsWithin, opened_then, space_of, seen}
use Rattle.am_board.proofs.lemmas.invariant.Sound.{IsFew, few_after, opened_now, kept_counted, consistent_now}

-- a call that opens no flush passes no limit, where the history has capacity for one record more
keeps_within : (b : Inside) (sound : IsSound b) (pass : ℕ) (call : Call) (reply : Reply) (new : kept.State) → AppliesCall b.config b.id (entry pass call reply) b.state new
    → length (after_call b.config (state_of b.state) call).flushes ≤ length (state_of b.state).flushes
    → vec_len b.state.history + length (state_of b.state).flushes + 1 ≤ b.config.limits.history
    → IsFew b.config (after_call b.config (state_of b.state) call)
    → IsWithin b.config (after_call b.config (state_of b.state) call) new
keeps_within b sound pass call reply new accepts few space still =
    let opened = opened_then b.config b.id (entry pass call reply) b.state new accepts in
    let before = opened_now b.state in
    (still, omega (arith, opened, before, few, sound.opened), omega (arith, opened, few, space, accepts.records))

-- where neither is a cause, the second isn't
pub second_cause : {X : Type 0} (cause other : Option X) → option_or cause other ≡ None → other ≡ None
second_cause None other e = e
second_cause (Some x) other e = absurd (cc)

module _ (b : Inside) (sound : IsSound b) (pass now : ℕ) (new : kept.State) where
  pub insert_within : (alert : AlertData) (x : Inserted) → insert_cause b.config (vec_len b.state.history) (state_of b.state) alert ≡ None
      → AppliesCall b.config b.id (entry pass (Insert now alert) (replies.Inserted x)) b.state new → IsWithin b.config (after_call b.config (state_of b.state) (Insert now alert)) new
  insert_within alert x none accepts =
      let s : State = state_of b.state in
      let parts = space_of b.config (vec_len b.state.history) s 1 (Some HistoryFull) _ none (λ h. absurd (cc)) in
      let names = neither_cause (is_alert_too_many b.config s alert) TooManyAlerts _ parts.1 in
      keeps_within b sound pass (Insert now alert) (replies.Inserted x) new accepts (omega arith) parts.0
      (fits-upsert same_alert alert s.known b.config.limits.alerts sound.names names.0, few_inserted b.config s (time s now) alert (is_alert_too_many b.config s alert) parts.1, sound.silences)

  pub silence_within : (silence : SilenceData) (x : Silenced) → silence_cause b.config (vec_len b.state.history) (state_of b.state) silence ≡ None
      → AppliesCall b.config b.id (entry pass (call_of_silence now silence) (replies.Silenced x)) b.state new → IsWithin b.config (after_call b.config (state_of b.state) (call_of_silence now silence)) new
  silence_within silence x none accepts =
      let parts = space_of b.config (vec_len b.state.history) (state_of b.state) 1 (Some HistoryFull) _ none (λ h. absurd (cc)) in
      let few = neither_cause (is_silence_too_many b.config (state_of b.state) silence) TooManySilences None parts.1 in
      keeps_within b sound pass (call_of_silence now silence) (replies.Silenced x) new accepts (omega arith)
      parts.0
      (sound.names, sound.groups, fits-upsert same_silence silence (state_of b.state).silences b.config.limits.silences sound.silences few.0)

  pub maintain_within : (x : Maintained) → maintain_cause b.config (vec_len b.state.history) (state_of b.state) ≡ None
      → AppliesCall b.config b.id (entry pass (Maintain now) (replies.Maintained x)) b.state new → IsWithin b.config (after_call b.config (state_of b.state) (Maintain now)) new
  maintain_within x none accepts =
      keeps_within b sound pass (Maintain now) (replies.Maintained x) new accepts (omega arith)
      (space_of b.config (vec_len b.state.history) (state_of b.state) 1 (Some HistoryFull) None none (λ h. absurd (cc))).0
      (few_after b sound (Maintain now) refl refl)

  pub removal_within : (x : EmptyGroupsRemoved) → removal_cause b.config (vec_len b.state.history) (state_of b.state) ≡ None
      → AppliesCall b.config b.id (entry pass (RemoveEmptyGroups now) (replies.EmptyGroupsRemoved x)) b.state new → IsWithin b.config (after_call b.config (state_of b.state) (RemoveEmptyGroups now)) new
  removal_within x none accepts =
      keeps_within b sound pass (RemoveEmptyGroups now) (replies.EmptyGroupsRemoved x) new accepts (omega arith)
      (space_of b.config (vec_len b.state.history) (state_of b.state) 1 (Some HistoryFull) None none (λ h. absurd (cc))).0
      (few_after b sound (RemoveEmptyGroups now) refl refl)

  pub forget_within : (x : Forgotten) → forget_cause b.config (vec_len b.state.history) (state_of b.state) ≡ None
      → AppliesCall b.config b.id (entry pass (Forget now) (replies.Forgotten x)) b.state new → IsWithin b.config (after_call b.config (state_of b.state) (Forget now)) new
  forget_within x none accepts =
      keeps_within b sound pass (Forget now) (replies.Forgotten x) new accepts (omega arith)
      (space_of b.config (vec_len b.state.history) (state_of b.state) 1 (Some HistoryFull) None none (λ h. absurd (cc))).0
      (few_after b sound (Forget now) refl refl)

  pub load_within : (row : RowView) (x : Loaded) → load_cause b.config (vec_len b.state.history) (state_of b.state) (time (state_of b.state) now) row ≡ None
      → AppliesCall b.config b.id (entry pass (Load now row) (replies.Loaded x)) b.state new → IsWithin b.config (after_call b.config (state_of b.state) (Load now row)) new
  load_within row x none accepts =
      let s : State = state_of b.state in
      let full : Option LoadFault = if is_full b.config (vec_len b.state.history) s 1 then Some load.HistoryFull else None in
      keeps_within b sound pass (Load now row) (replies.Loaded x) new accepts (omega arith)
      (space_of b.config (vec_len b.state.history) s 1 (Some load.HistoryFull) None (second_cause (row_cause b.config (time s now) row) full none) (λ h. absurd (cc))).0
      (few_after b sound (Load now row) refl refl)

-- ---- a begin opens a flush only where one more can be open

fits_notifying : (config : Config) (s : State) (t : ℕ) (g : GroupState) (notified : List (ℕ × Integration)) → length s.flushes ≤ config.limits.flushes
    → (if nat_le config.limits.flushes (length s.flushes) && notifies_some notified then Some TooManyOpen else None) ≡ None
    → (length (after_notifying config s t g notified).flushes ≤ config.limits.flushes) × (length (after_notifying config s t g notified).flushes ≤ length s.flushes + 1)
fits_notifying config s t g [] few none = (few, omega arith)
fits_notifying config s t g (i ∷ is) few none =
    let longer : length (s.flushes ++ flush_notifying config s t g (i ∷ is) ∷ []) ≡ length s.flushes + 1 = length-append s.flushes (flush_notifying config s t g (i ∷ is) ∷ []) in
    elim (nat_le config.limits.flushes (length s.flushes)) as (λ b. nat_le config.limits.flushes (length s.flushes) ≡ b → (if b && true then Some TooManyOpen else None) ≡ None
    → (length (s.flushes ++ flush_notifying config s t g (i ∷ is) ∷ []) ≤ config.limits.flushes) × (length (s.flushes ++ flush_notifying config s t g (i ∷ is) ∷ []) ≤ length s.flushes + 1)) [
      | true ↦ λ e h. absurd (cc)
      | false ↦ λ e h. (grind (arith, nat_tests, e, longer), omega (arith, longer))
    ] refl none

fits_taking : (config : Config) (s : State) (t : ℕ) (o : Option GroupState) → length s.flushes ≤ config.limits.flushes
    → (if nat_le config.limits.flushes (length s.flushes) && opens_by config s t o then Some TooManyOpen else None) ≡ None
    → (length (after_taking config s t o).flushes ≤ config.limits.flushes) × (length (after_taking config s t o).flushes ≤ length s.flushes + 1)
fits_taking config s t None few none = (few, omega arith)
fits_taking config s t (Some g) few none = fits_notifying config s t g (notified_of config s t g) few none

pub begin_within : (b : Inside) (sound : IsSound b) (pass now : ℕ) (new : kept.State) (x : Begun) → begin_cause b.config (vec_len b.state.history) (state_of b.state) (time (state_of b.state) now) ≡ None
    → AppliesCall b.config b.id (entry pass (Begin now) (reply_of x)) b.state new → IsWithin b.config (after_call b.config (state_of b.state) (Begin now)) new
begin_within b sound pass now new x none accepts =
    let s : State = state_of b.state in
    let t : ℕ = time s now in
    let parts = space_of b.config (vec_len b.state.history) s 2 (Some HistoryFull) _ none (λ h. absurd (cc)) in
    let before = opened_now b.state in
    let few : length s.flushes ≤ b.config.limits.flushes = omega (arith, before, sound.opened) in
    let fits = fits_taking b.config s t (taken s t) few parts.1 in
    let opened = opened_then b.config b.id (entry pass (Begin now) (reply_of x)) b.state new accepts in
    (few_after b sound (Begin now) refl refl, omega (arith, opened, fits.0), omega (arith, opened, fits.1, parts.0, accepts.records))

-- a fault is `TooManyOpen` only where that is the first cause
not_open : (cause : Option Fault) (fault : Fault) → cause ≢ Some TooManyOpen → IsAnswer cause fault → fault ≢ TooManyOpen
not_open None fault never is waits = absurd (cc)
not_open (Some NoMemory) fault never is waits = absurd (cc)
not_open (Some TooManyAlerts) fault never is waits = absurd (cc)
not_open (Some TooManyGroups) fault never is waits = ⊎_elim (λ (e : fault ≡ TooManyGroups). absurd (cc)) (λ (e : fault ≡ NoMemory). absurd (cc)) is
not_open (Some TooManySilences) fault never is waits = absurd (cc)
not_open (Some TooManyOpen) fault never is waits = never refl
not_open (Some HistoryFull) fault never is waits = absurd (cc)

-- a cause at the state that is kept is one at the state after the history
module _ (b : Inside) (sound : IsSound b) (now : BoardData) (view_is : seen b b.state ≡ now) where
  abbrev replayed : State
  replayed = replay b.config (whole b)

  pub maintain_caused : maintain_cause b.config (vec_len b.state.history) (state_of b.state) ≡ maintain_cause now.config (records_at now) (state_at now)
  maintain_caused =
      subst (λ (d : BoardData). maintain_cause b.config (vec_len b.state.history) (state_of b.state) ≡ maintain_cause d.config (records_at d) (state_at d)) view_is
      (maintain_cause-agrees (state_of b.state) replayed sound.agrees b.config (vec_len b.state.history) ∙ ap (λ n. maintain_cause b.config n replayed) (kept_counted b sound))

  pub removal_caused : removal_cause b.config (vec_len b.state.history) (state_of b.state) ≡ removal_cause now.config (records_at now) (state_at now)
  removal_caused =
      subst (λ (d : BoardData). removal_cause b.config (vec_len b.state.history) (state_of b.state) ≡ removal_cause d.config (records_at d) (state_at d)) view_is
      (removal_cause-agrees (state_of b.state) replayed sound.agrees b.config (vec_len b.state.history) ∙ ap (λ n. removal_cause b.config n replayed) (kept_counted b sound))

  pub forget_caused : forget_cause b.config (vec_len b.state.history) (state_of b.state) ≡ forget_cause now.config (records_at now) (state_at now)
  forget_caused =
      subst (λ (d : BoardData). forget_cause b.config (vec_len b.state.history) (state_of b.state) ≡ forget_cause d.config (records_at d) (state_at d)) view_is
      (forget_cause-agrees (state_of b.state) replayed sound.agrees b.config (vec_len b.state.history) ∙ ap (λ n. forget_cause b.config n replayed) (kept_counted b sound))

  pub load_caused : (at : ℕ) (row : RowView) → load_cause b.config (vec_len b.state.history) (state_of b.state) (time (state_of b.state) at) row ≡ load_cause now.config (records_at now) (state_at now) (time (state_at now) at) row
  load_caused at row =
      subst (λ (d : BoardData). load_cause b.config (vec_len b.state.history) (state_of b.state) (time (state_of b.state) at) row ≡ load_cause d.config (records_at d) (state_at d) (time (state_at d) at) row) view_is
      (load_cause-agrees (state_of b.state) replayed sound.agrees b.config (vec_len b.state.history) (time (state_of b.state) at) row
      ∙ (ap (λ (s : State). load_cause b.config (vec_len b.state.history) replayed (time s at) row) sound.agrees.rest
      ∙ ap (λ n. load_cause b.config n replayed (time replayed at) row) (kept_counted b sound)))

  pub begin_caused : (at : ℕ) → begin_cause b.config (vec_len b.state.history) (state_of b.state) (time (state_of b.state) at) ≡ begin_cause now.config (records_at now) (state_at now) (time (state_at now) at)
  begin_caused at =
      subst (λ (d : BoardData). begin_cause b.config (vec_len b.state.history) (state_of b.state) (time (state_of b.state) at) ≡ begin_cause d.config (records_at d) (state_at d) (time (state_at d) at)) view_is
      (begin_cause-agrees (state_of b.state) replayed sound.agrees (consistent_now b sound).rows b.config (vec_len b.state.history) (time (state_of b.state) at)
      ∙ (ap (λ (s : State). begin_cause b.config (vec_len b.state.history) replayed (time s at)) sound.agrees.rest
      ∙ ap (λ n. begin_cause b.config n replayed (time replayed at)) (kept_counted b sound)))

  pub insert_caused : (alert : AlertData) → insert_cause b.config (vec_len b.state.history) (state_of b.state) alert ≡ insert_cause now.config (records_at now) (state_at now) alert
  insert_caused alert =
      subst (λ (d : BoardData). insert_cause b.config (vec_len b.state.history) (state_of b.state) alert ≡ insert_cause d.config (records_at d) (state_at d) alert) view_is
      (insert_cause-agrees (state_of b.state) replayed sound.agrees b.config (vec_len b.state.history) alert ∙ ap (λ n. insert_cause b.config n replayed alert) (kept_counted b sound))

  pub silence_caused : (silence : SilenceData) → silence_cause b.config (vec_len b.state.history) (state_of b.state) silence ≡ silence_cause now.config (records_at now) (state_at now) silence
  silence_caused silence =
      subst (λ (d : BoardData). silence_cause b.config (vec_len b.state.history) (state_of b.state) silence ≡ silence_cause d.config (records_at d) (state_at d) silence) view_is
      (silence_cause-agrees (state_of b.state) replayed sound.agrees b.config (vec_len b.state.history) silence ∙ ap (λ n. silence_cause b.config n replayed silence) (kept_counted b sound))

  -- where the limit of open flushes is that of groups, no begin waits for a finish
  pub begin_unhindered : {T : Type 0} (at : ℕ) (result : Result T Fault) → IsCaused (begin_cause now.config (records_at now) (state_at now) (time (state_at now) at)) result
      → now.config.limits.groups ≤ now.config.limits.flushes → IfErr result (λ fault. fault ≢ TooManyOpen)
  begin_unhindered at (Ok x) caused most = tt
  begin_unhindered at (Err fault) caused most =
      let s : State = state_of b.state in
      let limits : b.config.limits ≡ now.config.limits = ap (λ (d : BoardData). d.config.limits) view_is in
      let own : b.config.limits.groups ≤ b.config.limits.flushes = subst (λ (l : Limits). l.groups ≤ l.flushes) (sym limits) most in
      not_open (begin_cause now.config (records_at now) (state_at now) (time (state_at now) at)) fault
      (λ waits. flushes_never_wait b.config (vec_len b.state.history) s (time s at) (consistent_now b sound) sound.groups own (begin_caused at ∙ waits))
      caused
