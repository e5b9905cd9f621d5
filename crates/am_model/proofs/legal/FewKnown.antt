-- No accepted insert passes the limit of known alerts, no accepted silence that of silences, and no other call adds to either.
use Rattle.std.proofs.Common.{◌≡◌, ℕ, ◌+◌, ◌≤◌, Bool, true, false, cond, not, ◌&&◌, nat_le, Option, Some, None, List, [], ◌∷◌, length, refl, ap, arith, if◌then◌else◌}
use Rattle.std.specs.List.{list_any}
use Rattle.std.proofs.lemmas.Bool.Decides.{nat_tests}
use Rattle.am_mute.specs.Silence.{is_over}
use Rattle.am_retry.specs.declared.outcome.Outcome.{Outcome}
use Rattle.am_model.specs.declared.config.Config.{Config}
use Rattle.am_model.specs.declared.config.Integration.{Integration}
use Rattle.am_model.specs.declared.record.Call.{Call}
use Rattle.am_model.specs.declared.record.Call.TheVariants.{Insert, Silence, Begin, Finish, Maintain, RemoveEmptyGroups, Forget, Load, Note}
use Rattle.am_model.specs.Begin.{taken, notified_of, after_notifying, after_taking}
use Rattle.am_model.specs.Finish.{after_finish_of}
use Rattle.am_model.specs.Forget.{is_idle}
use Rattle.am_model.specs.Lists.{upsert}
use Rattle.am_model.specs.Note.{after_note, after_note_of, may_note}
use Rattle.am_model.specs.Replay.{after_call}
use Rattle.am_model.specs.State.{GroupState, FlushState, State, at_time, time, flush_numbered}
use Rattle.am_model.proofs.legal.BoundedAlerts.{length-filter, length-upsert, length-put_known}
use Rattle.am_model.proofs.legal.FewGroups.{IsInsert}

-- what is put in passes no limit, where there can be one more or one is like it
pub fits-upsert : {X : Type 0} (like : X → X → Bool) (x : X) (xs : List X) (most : ℕ) → length xs ≤ most
    → (nat_le most (length xs) && not (list_any (like x) xs)) ≡ false → length (upsert like x xs) ≤ most
fits-upsert like x xs most few fits =
    let more : length (upsert like x xs) ≤ length xs + 1 = length-upsert like x xs in
    elim (list_any (like x) xs) as (λ b. list_any (like x) xs ≡ b → (nat_le most (length xs) && not b) ≡ false → length (upsert like x xs) ≤ most) [
      | true ↦ λ e _. omega (arith, length-put_known like x xs e, few)
      | false ↦ λ _ h.
          elim (nat_le most (length xs)) as (λ b. nat_le most (length xs) ≡ b → (b && true) ≡ false → length (upsert like x xs) ≤ most) [
            | true ↦ λ _ g. absurd (cc)
            | false ↦ λ e _. let less : length xs + 1 ≤ most = grind (arith, nat_tests, e) in omega (arith, more, less)
          ] refl h
    ] refl fits

-- where none of two causes holds
pub neither_cause : {X : Type 0} (b : Bool) (x : X) (other : Option X) → (if b then Some x else other) ≡ None → (b ≡ false) × (other ≡ None)
neither_cause true x other e = absurd (cc)
neither_cause false x other e = (refl, e)

abbrev pub IsSilence : Call → Bool
IsSilence (Insert now alert) = false
IsSilence (Silence now number matchers start end) = true
IsSilence (Begin now) = false
IsSilence (Finish now number outcomes) = false
IsSilence (Maintain now) = false
IsSilence (RemoveEmptyGroups now) = false
IsSilence (Forget now) = false
IsSilence (Load now row) = false
IsSilence (Note now number integration outcome) = false

abbrev pub IsForget : Call → Bool
IsForget (Insert now alert) = false
IsForget (Silence now number matchers start end) = false
IsForget (Begin now) = false
IsForget (Finish now number outcomes) = false
IsForget (Maintain now) = false
IsForget (RemoveEmptyGroups now) = false
IsForget (Forget now) = true
IsForget (Load now row) = false
IsForget (Note now number integration outcome) = false

module _ (config : Config) (s : State) where
  -- what is known, and the silences, are those of s
  abbrev pub KeepsKnown : State → Type 0
  KeepsKnown new = (new.known ≡ s.known) × (new.silences ≡ s.silences)

  known_notifying : (t : ℕ) (g : GroupState) (notified : List (ℕ × Integration)) → KeepsKnown (after_notifying config s t g notified)
  known_notifying t g [] = (refl, refl)
  known_notifying t g (i ∷ is) = (refl, refl)

  known_taking : (t : ℕ) (o : Option GroupState) → KeepsKnown (after_taking config s t o)
  known_taking t None = (refl, refl)
  known_taking t (Some g) = known_notifying t g (notified_of config s t g)

  known_finished : (t : ℕ) (outcomes : List (ℕ × Outcome)) (o : Option FlushState) → KeepsKnown (after_finish_of config s t outcomes o)
  known_finished t outcomes None = (refl, refl)
  known_finished t outcomes (Some f) = (refl, refl)

  known_noted : (t integration : ℕ) (outcome : Option Outcome) (o : Option FlushState) → KeepsKnown (after_note_of config s t integration outcome o)
  known_noted t integration outcome None = (refl, refl)
  known_noted t integration outcome (Some f) =
      let noted : State = after_note config s t integration f in
      let moved : State = at_time s t in
      elim (may_note integration outcome f) as (λ b. KeepsKnown (cond b noted moved)) [ true ↦ (refl, refl) | false ↦ (refl, refl) ]

  -- an insert and a forgetting alone change what is known, and a silence and a forgetting the silences
  pub known_others : (call : Call) → IsInsert call ≡ false → IsSilence call ≡ false → IsForget call ≡ false → KeepsKnown (after_call config s call)
  known_others (Insert now alert) e f g = absurd (cc)
  known_others (Silence now number matchers start end) e f g = absurd (cc)
  known_others (Begin now) e f g = known_taking (time s now) (taken s (time s now))
  known_others (Finish now number outcomes) e f g = known_finished (time s now) outcomes (flush_numbered s.flushes number)
  known_others (Maintain now) e f g = (refl, refl)
  known_others (RemoveEmptyGroups now) e f g = (refl, refl)
  known_others (Forget now) e f g = absurd (cc)
  known_others (Load now row) e f g = (refl, refl)
  known_others (Note now number integration outcome) e f g = known_noted (time s now) integration outcome (flush_numbered s.flushes number)

  -- no more is known, and there are no more silences
  abbrev pub KnowsNoMore : State → Type 0
  KnowsNoMore new = (length new.known ≤ length s.known) × (length new.silences ≤ length s.silences)

  no_more : (new : State) → KeepsKnown new → KnowsNoMore new
  no_more new kept = (omega (arith, ap length kept.0), omega (arith, ap length kept.1))

  -- an insert alone adds to what is known, and a silence alone to the silences
  pub fewer_others : (call : Call) → IsInsert call ≡ false → IsSilence call ≡ false → KnowsNoMore (after_call config s call)
  fewer_others (Insert now alert) e f = absurd (cc)
  fewer_others (Silence now number matchers start end) e f = absurd (cc)
  fewer_others (Begin now) e f = no_more (after_call config s (Begin now)) (known_others (Begin now) refl refl refl)
  fewer_others (Finish now number outcomes) e f =
      no_more (after_call config s (Finish now number outcomes)) (known_others (Finish now number outcomes) refl refl refl)
  fewer_others (Maintain now) e f = no_more (after_call config s (Maintain now)) (refl, refl)
  fewer_others (RemoveEmptyGroups now) e f = no_more (after_call config s (RemoveEmptyGroups now)) (refl, refl)
  fewer_others (Forget now) e f = (
    length-filter (λ a. not (is_idle s.groups (time s now) a)) s.known,
    length-filter (λ x. not (is_over (time s now) x)) s.silences,
  )
  fewer_others (Load now row) e f = no_more (after_call config s (Load now row)) (refl, refl)
  fewer_others (Note now number integration outcome) e f =
      no_more (after_call config s (Note now number integration outcome)) (known_others (Note now number integration outcome) refl refl refl)
