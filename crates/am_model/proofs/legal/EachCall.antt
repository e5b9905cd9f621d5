-- What holds of each accepted call: it is enough to say it of each kind of call, with the reply that it returns and the state that it leads to.
use Rattle.std.proofs.Common.{◌≡◌, ℕ, true, false, Option, Some, None, List, refl, ap, subst, if◌then◌else◌}
use Rattle.std.specs.Prelude.{unwrap_or}
use Rattle.std.specs.Option.{option_map}
use Rattle.am_alerts.specs.AlertData.{AlertData}
use Rattle.am_alerts.specs.declared.matcher.MatcherParts.{MatcherParts}
use Rattle.am_mute.specs.Silence.{silence_of}
use Rattle.am_retry.specs.declared.outcome.Outcome.{Outcome}
use Rattle.am_model.specs.declared.config.Config.{Config}
use Rattle.am_model.specs.declared.config.Integration.{Integration}
use Rattle.am_model.specs.declared.record.Call.{Call}
use Rattle.am_model.specs.declared.record.Call.TheVariants.{Insert, Silence, Begin, Finish, Maintain, RemoveEmptyGroups, Forget, Load, Note}
use Rattle.am_model.specs.declared.record.Reply.{Reply}
use Rattle.am_model.specs.declared.record.Reply.TheVariants as reply_is
use Rattle.am_model.specs.declared.views.RowView.{RowView}
use Rattle.am_model.specs.Begin.{notified_of, taken, after_notifying, after_taking, reply_notifying, reply_taking, begun}
use Rattle.am_model.specs.Finish.{finished, after_finish, after_finish_of}
use Rattle.am_model.specs.Forget.{forgotten, after_forget}
use Rattle.am_model.specs.Insert.{inserted, after_insert}
use Rattle.am_model.specs.Load.{may_load, loaded, load_reply, after_load}
use Rattle.am_model.specs.Note.{may_note, noted, after_note, after_note_of}
use Rattle.am_model.specs.Replay.{reply, after_call}
use Rattle.am_model.specs.State.{GroupState, FlushState, State, at_time, time, flush_numbered}
use Rattle.am_model.specs.Maintenance.{silenced, after_silence, maintained, after_maintain, empty_groups_removed, after_removal}

pub inside : {X : Type 0} (x y : X) → Some x ≡ Some y → x ≡ y
inside x y e = ap (λ o. unwrap_or o x) e

-- it holds of each kind of call
pub record HoldsOfEach (config : Config) (id : ℕ) (s : State) (P : Call → State → Reply → Type 0) : Type 0 where
  pub insert : (now : ℕ) (a : AlertData) → P (Insert now a) (after_insert config s (time s now) a) (reply_is.Inserted (inserted config s a))
  pub silence : (now number : ℕ) (matchers : List MatcherParts) (start end : ℕ)
      → P (Silence now number matchers start end) (after_silence s (time s now) (silence_of number matchers start end)) (reply_is.Silenced (silenced s (silence_of number matchers start end)))
  pub nothing : (now : ℕ) → taken s (time s now) ≡ None → P (Begin now) (at_time s (time s now)) reply_is.NothingDue
  pub begin : (now : ℕ) (g : GroupState) → taken s (time s now) ≡ Some g → (notified : List (ℕ × Integration)) → notified_of config s (time s now) g ≡ notified
      → P (Begin now) (after_notifying config s (time s now) g notified) (reply_notifying config id s (time s now) g notified)
  pub finish : (now number : ℕ) (outcomes : List (ℕ × Outcome)) (f : FlushState) → flush_numbered s.flushes number ≡ Some f
      → P (Finish now number outcomes) (after_finish config s (time s now) outcomes f) (reply_is.Finished (finished s outcomes f))
  pub maintain : (now : ℕ) → P (Maintain now) (after_maintain s (time s now)) (reply_is.Maintained (maintained s (time s now)))
  pub remove_empty_groups : (now : ℕ) → P (RemoveEmptyGroups now) (after_removal s (time s now)) (reply_is.EmptyGroupsRemoved (empty_groups_removed s))
  pub forget : (now : ℕ) → P (Forget now) (after_forget s (time s now)) (reply_is.Forgotten (forgotten s (time s now)))
  pub load : (now : ℕ) (row : RowView) → may_load config (time s now) row ≡ true
      → P (Load now row) (after_load config s (time s now) row) (reply_is.Loaded (loaded s.rows (time s now) row))
  pub note : (now number integration : ℕ) (outcome : Option Outcome) (f : FlushState) → flush_numbered s.flushes number ≡ Some f → may_note integration outcome f ≡ true
      → P (Note now number integration outcome) (after_note config s (time s now) integration f) reply_is.Noted

-- so it holds of any that returned its reply
module _ (config : Config) (id : ℕ) (s : State) (P : Call → State → Reply → Type 0) (each : HoldsOfEach config id s P) where
  begins : (now : ℕ) (o : Option GroupState) → taken s (time s now) ≡ o → P (Begin now) (after_taking config s (time s now) o) (reply_taking config id s (time s now) o)
  begins now None e = each.nothing now e
  begins now (Some g) e = each.begin now g e (notified_of config s (time s now) g) refl

  finishes : (now number : ℕ) (outcomes : List (ℕ × Outcome)) (o : Option FlushState) (p : Reply) → flush_numbered s.flushes number ≡ o → option_map (λ f. reply_is.Finished (finished s outcomes f)) o ≡ Some p
      → P (Finish now number outcomes) (after_finish_of config s (time s now) outcomes o) p
  finishes now number outcomes None p is e = absurd (cc)
  finishes now number outcomes (Some f) p is e =
      subst (P (Finish now number outcomes) (after_finish config s (time s now) outcomes f)) (inside (reply_is.Finished (finished s outcomes f)) p e) (each.finish now number outcomes f is)

  notes : (now number integration : ℕ) (outcome : Option Outcome) (o : Option FlushState) (p : Reply) → flush_numbered s.flushes number ≡ o → noted integration outcome o ≡ Some p
      → P (Note now number integration outcome) (after_note_of config s (time s now) integration outcome o) p
  notes now number integration outcome None p is e = absurd (cc)
  notes now number integration outcome (Some f) p is e =
      elim (may_note integration outcome f) as (λ b. may_note integration outcome f ≡ b → (if b then Some reply_is.Noted else None) ≡ Some p → P (Note now number integration outcome) (if b then after_note config s (time s now) integration f else at_time s (time s now)) p) [
        | true ↦ λ may returned. subst (P (Note now number integration outcome) (after_note config s (time s now) integration f)) (inside reply_is.Noted p returned) (each.note now number integration outcome f is may)
        | false ↦ λ may returned. absurd (cc)
      ] refl e

  loads : (now : ℕ) (row : RowView) (p : Reply) → load_reply config s (time s now) row ≡ Some p → P (Load now row) (after_load config s (time s now) row) p
  loads now row p e =
      elim (may_load config (time s now) row) as (λ b. may_load config (time s now) row ≡ b → (if b then Some (reply_is.Loaded (loaded s.rows (time s now) row)) else None) ≡ Some p → P (Load now row) (after_load config s (time s now) row) p) [
        | true ↦ λ may returned. subst (P (Load now row) (after_load config s (time s now) row)) (inside (reply_is.Loaded (loaded s.rows (time s now) row)) p returned) (each.load now row may)
        | false ↦ λ may returned. absurd (cc)
      ] refl e

  pub each_call : (c : Call) (p : Reply) → reply config id s c ≡ Some p → P c (after_call config s c) p
  each_call (Insert now a) p e = subst (P (Insert now a) (after_insert config s (time s now) a)) (inside (reply_is.Inserted (inserted config s a)) p e) (each.insert now a)
  each_call (Silence now number matchers start end) p e =
      subst (P (Silence now number matchers start end) (after_silence s (time s now) (silence_of number matchers start end)))
      (inside (reply_is.Silenced (silenced s (silence_of number matchers start end))) p e) (each.silence now number matchers start end)
  each_call (Begin now) p e = subst (P (Begin now) (after_call config s (Begin now))) (inside (begun config id s (time s now)) p e) (begins now (taken s (time s now)) refl)
  each_call (Finish now number outcomes) p e = finishes now number outcomes (flush_numbered s.flushes number) p refl e
  each_call (Maintain now) p e = subst (P (Maintain now) (after_maintain s (time s now))) (inside (reply_is.Maintained (maintained s (time s now))) p e) (each.maintain now)
  each_call (RemoveEmptyGroups now) p e = subst (P (RemoveEmptyGroups now) (after_removal s (time s now))) (inside (reply_is.EmptyGroupsRemoved (empty_groups_removed s)) p e) (each.remove_empty_groups now)
  each_call (Forget now) p e = subst (P (Forget now) (after_forget s (time s now))) (inside (reply_is.Forgotten (forgotten s (time s now))) p e) (each.forget now)
  each_call (Load now row) p e = loads now row p e
  each_call (Note now number integration outcome) p e = notes now number integration outcome (flush_numbered s.flushes number) p refl e
