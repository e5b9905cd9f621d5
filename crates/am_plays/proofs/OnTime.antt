-- Where the limit of open flushes isn't below that of groups, each group is begun when it is due and its last flush is finished.
use Rattle.std.proofs.Common.{◌≡◌, ℕ, ◌+◌, ◌≤◌, ◌<◌, max, min, Bool, true, false, not, ◌&&◌, ◌||◌, nat_le, nat_lt, cond, Option, Some, None, List, [], ◌∷◌, length, inl, inr, refl, sym, ap, subst, arith, if◌then◌else◌}
use Rattle.std.specs.Prelude.{find}
use Rattle.std.specs.Option.{IfSome}
use Rattle.std.proofs.lemmas.Bool.{le-leb, leb-true, leb-false}
use Rattle.am_model.specs.declared.config.Config.{Config}
use Rattle.am_model.specs.declared.group.GroupName.{GroupName}
use Rattle.am_model.specs.declared.record.Record.{Record}
use Rattle.am_model.specs.Insert.{new_group, wait_of}
use Rattle.am_model.specs.State.{GroupState, State, is_named}
use Rattle.am_model.specs.look_back.Laws.{IsOneFlushAtATime, has_open}
use Rattle.am_model.specs.look_back.Past.{AtEach, past_of, replay_past, time_at}
use Rattle.am_model.proofs.looking_back.LooksBack.{histories_look_back}
use Rattle.am_model.proofs.looking_back.Pasts.{IsLegalPast, legal_past, replay_of_past}
use Rattle.am_paging.specs.InTime.{ended_at, is_finish_of}
use Rattle.am_paging.proofs.GroupSteps.{Has, IsKept, group_after, group-step}
use Rattle.am_paging.proofs.Standing.{ended-before}
use Rattle.am_simulation.specs.Scene.{Setting}
use Rattle.am_simulation.specs.declared.limits.TheConstants.{BOARD_ID}
use Rattle.am_plays.specs.Plays.{BeginsWhenDue, ComesBy, EveryPlay, PassesOverNone, has_place}
use Rattle.am_plays.proofs.Closing.{finished-now}
use Rattle.am_plays.proofs.PassedOver.{nothing_due_is_passed_over}
use Rattle.am_plays.proofs.Sound.{plays_are_legal}

-- a group is due at a or later, or something ended then or later
abbrev IsLate : ℕ → ℕ → GroupState → Type 0
IsLate a e g = a ≤ max g.due e

late-kept : (config : Config) (a e t : ℕ) → a ≤ t → IsKept config (IsLate a e) t
late-kept config a e t come =
    record {
      put = λ m g late.
          let now : a ≤ max g.due e = late in
          elim (not g.flushed && nat_lt (m.alert.starts + wait_of config g.name) t) as (λ b. a ≤ max (if b then min g.due t else g.due) e) [
            | true ↦ omega (arith, now, come)
            | false ↦ now
          ];
      begun = λ g. omega (arith, come);
      left = λ g ms late. late;
    }

late-ended : (a e : ℕ) → a ≤ e → (o : Option GroupState) → Has (IsLate a e) o
late-ended a e ended None = tt
late-ended a e ended (Some g) = omega (arith, ended)

module _ (r : Setting) (config : Config) (id : ℕ) (name : GroupName) (most : config.limits.groups ≤ config.limits.flushes) where
  -- a time, up to just after the rehearsal's end
  abbrev until_end : ℕ → ℕ
  until_end t = min t (r.until + 1)

  -- the group isn't due before the last record, unless its last flush ended then
  abbrev IsFree : List Record → Type 0
  IsFree past = Has (IsLate (until_end (time_at past)) (ended_at name past)) (group_after config id name past)

  place : (s : State) → has_place config s ≡ true
  place s = ap (λ b. b || nat_lt (length s.flushes) config.limits.flushes) (le-leb config.limits.groups config.limits.flushes most)

  -- nor before the next one
  module _ (q : Record) (past : List Record) (passes : PassesOverNone r config q past) (closed : has_open name past ≡ false) (free : IsFree past) where
    passed : IfSome (group_after config id name past) (λ g. ComesBy r (max (time_at past) g.due) (time_at (q ∷ past)))
    passed =
        subst (λ s. IfSome (find (is_named name) s.groups) (λ g. ComesBy r (max (time_at past) g.due) (time_at (q ∷ past)))) (replay_of_past config past)
        (passes (place (replay_past config past)) name closed)

    next-free : Has (IsLate (until_end (time_at (q ∷ past))) (ended_at name past)) (group_after config id name past)
    next-free = by (group_after config id name past) passed free
      where
        by : (o : Option GroupState) → IfSome o (λ g. ComesBy r (max (time_at past) g.due) (time_at (q ∷ past)))
            → Has (IsLate (until_end (time_at past)) (ended_at name past)) o → Has (IsLate (until_end (time_at (q ∷ past))) (ended_at name past)) o
        by None comes late = tt
        by (Some g) comes late =
            let before : until_end (time_at past) ≤ max g.due (ended_at name past) = late in
            elim comes [
              | inl within ↦ omega (arith, within, before)
              | inr after ↦ omega (arith, after, before)
            ]

    comes : IfSome (find (is_named name) (replay_past config past).groups) (λ g. ComesBy r (max g.due (ended_at name past)) (time_at (q ∷ past)))
    comes =
        subst (λ s. IfSome (find (is_named name) s.groups) (λ g. ComesBy r (max g.due (ended_at name past)) (time_at (q ∷ past)))) (sym (replay_of_past config past))
        (by (group_after config id name past) next-free)
      where
        by : (o : Option GroupState) → Has (IsLate (until_end (time_at (q ∷ past))) (ended_at name past)) o → IfSome o (λ g. ComesBy r (max g.due (ended_at name past)) (time_at (q ∷ past)))
        by None late = tt
        by (Some g) late =
            let before : until_end (time_at (q ∷ past)) ≤ max g.due (ended_at name past) = late in
            choose g before (nat_le (r.until + 1) (max g.due (ended_at name past))) refl
          where
            choose : (g : GroupState) → until_end (time_at (q ∷ past)) ≤ max g.due (ended_at name past) → (b : Bool) → nat_le (r.until + 1) (max g.due (ended_at name past)) ≡ b
                → ComesBy r (max g.due (ended_at name past)) (time_at (q ∷ past))
            choose g before true is = let after : r.until + 1 ≤ max g.due (ended_at name past) = leb-true (r.until + 1) (max g.due (ended_at name past)) is in inr (omega (arith, after))
            choose g before false is = let within : max g.due (ended_at name past) < r.until + 1 = leb-false (r.until + 1) (max g.due (ended_at name past)) is in inl (omega (arith, within, before))

  -- each past
  free : (past : List Record) → IsLegalPast config id past → AtEach IsOneFlushAtATime past → AtEach (PassesOverNone r config) past → has_open name past ≡ false → IsFree past
  free [] legal once passes closed = tt
  free (q ∷ past) legal once passes closed = by (has_open name past) refl (λ before. free past legal.1 once.1 passes.1 before)
    where
      by : (o : Bool) → has_open name past ≡ o → (has_open name past ≡ false → IsFree past) → IsFree (q ∷ past)
      by true opened before =
          let now : ended_at name (q ∷ past) ≡ time_at (q ∷ past) = ap (λ b. cond b (time_at (q ∷ past)) (ended_at name past)) (finished-now name q past once.1 opened closed) in
          late-ended (until_end (time_at (q ∷ past))) (ended_at name (q ∷ past)) (omega (arith, now)) (group_after config id name (q ∷ past))
      by false closed_before before =
          let grown : ended_at name past ≤ ended_at name (q ∷ past) = ended-grows q past in
          let kept = late-kept config (until_end (time_at (q ∷ past))) (ended_at name (q ∷ past)) (time_at (q ∷ past)) (omega arith) in
          group-step config id name (IsLate (until_end (time_at (q ∷ past))) (ended_at name (q ∷ past))) q past legal kept
          (late-more (group_after config id name past) grown (next-free q past passes.0 closed_before (before closed_before)))
          (λ none m. kept.put m (new_group config (time_at (q ∷ past)) name) (omega arith))
        where
          ended-grows : (q : Record) (past : List Record) → ended_at name past ≤ ended_at name (q ∷ past)
          ended-grows q past =
              let before = ended-before config id name past in
              elim (is_finish_of name past q.call) as (λ b. ended_at name past ≤ cond b (time_at (q ∷ past)) (ended_at name past)) [
                | true ↦ omega (arith, before)
                | false ↦ omega arith
              ]

          late-more : (o : Option GroupState) → ended_at name past ≤ ended_at name (q ∷ past) → Has (IsLate (until_end (time_at (q ∷ past))) (ended_at name past)) o
              → Has (IsLate (until_end (time_at (q ∷ past))) (ended_at name (q ∷ past))) o
          late-more None grown late = tt
          late-more (Some g) grown late = let now : until_end (time_at (q ∷ past)) ≤ max g.due (ended_at name past) = late in omega (arith, now, grown)

  -- each record
  pub when-due : (past : List Record) → IsLegalPast config id past → AtEach IsOneFlushAtATime past → AtEach (PassesOverNone r config) past
      → AtEach (λ q past. has_open name past ≡ false → IfSome (find (is_named name) (replay_past config past).groups) (λ g. ComesBy r (max g.due (ended_at name past)) (time_at (q ∷ past)))) past
  when-due [] legal once passes = tt
  when-due (q ∷ past) legal once passes = (λ closed. comes q past passes.0 closed (free past legal.1 once.1 passes.1 closed), when-due past legal.1 once.1 passes.1)

-- what holds at each record for each name holds for each name at each record
all-names : (P : GroupName → Record → List Record → Type 0) (past : List Record) → ((name : GroupName) → AtEach (P name) past) → AtEach (λ q past. (name : GroupName) → P name q past) past
all-names P [] each = tt
all-names P (q ∷ past) each = (λ name. (each name).0, all-names P past (λ name. (each name).1))

pub begins_when_due : EveryPlay BeginsWhenDue
begins_when_due r config plans board events play most =
    let legal = plays_are_legal r config plans board events play in
    all-names (λ name q past. has_open name past ≡ false → IfSome (find (is_named name) (replay_past config past).groups) (λ g. ComesBy r (max g.due (ended_at name past)) (time_at (q ∷ past))))
    (past_of board.history)
    (λ name. when-due r config BOARD_ID name most (past_of board.history) (legal_past config BOARD_ID board.history legal) (histories_look_back config BOARD_ID board.history legal).once
    (nothing_due_is_passed_over r config plans board events play))
