-- An open flush among those that are kept.
use Rattle.std.proofs.Common.{◌≡◌, ℕ, zero, suc, ◌+◌, ◌<◌, ◌==◌, Some, List, [], ◌∷◌, length, map, get_or, fold, refl, sym, ap, ◌∙◌, subst, arith}
use Rattle.std.specs.Prelude.{All}
use Rattle.std.specs.List.{remove}
use Rattle.std.proofs.lemmas.List.{length-map, get_or-map}
use Rattle.std.proofs.lemmas.List.Elements.{All-append, All-take, All-drop, All-weaker}
use Rattle.am_alerts.specs.declared.labels.Label.{Label}
use Rattle.am_nflog.specs.Log.{Slots}
use Rattle.am_retry.specs.declared.outcome.Outcome.{Outcome}
use Rattle.am_model.specs.Finish.{row_at, rows_after, log_with}
use Rattle.am_board.specs.Refinement.{IsNotified, IsPrepared, flush_state}
use Rattle.am_model.specs.Laws.{same_number}
use Rattle.am_board.specs.Finishing.{row_for, logged_of, rows_with, KnowTheSame}
use Rattle.am_model.specs.State.{FlushState, flush_numbered}
use Rattle.am_board.specs.Step.{StateInvariant}
use Rattle.am_model.specs.declared.config.Config.{Config}
use Rattle.am_board.specs.declared.flush.OpenFlush.{OpenFlush}
use Rattle.am_model.specs.declared.group.GroupName.{GroupName}
use Rattle.am_board.specs.declared.state.State as kept
use Rattle.am_model.specs.declared.views.RowView.{RowView}
use Rattle.am_model.proofs.lists.Alone.{IsAlone, find-alone, alone-distinct}
use Rattle.am_board.proofs.lemmas.finish.Logging.{notified-of}
use Rattle.am_model.proofs.states.Alike.{same_number_equiv}

-- the flush at an index is the one of its number
module _ (config : Config) (s : kept.State) (f : ℕ) (o : OpenFlush) (within : f < length s.flushes.items) (is : o ≡ get_or s.flushes.items f o) (good : StateInvariant config s) where
  pub at_index : get_or (map flush_state s.flushes.items) f (flush_state o) ≡ flush_state o
  at_index = get_or-map flush_state s.flushes.items f o (flush_state o) within ∙ ap flush_state (sym is)

  pub open-alone : IsAlone (λ g. g.number == o.number) (map flush_state s.flushes.items) f
  open-alone =
      alone-distinct same_number same_number_equiv (λ g. g.number == o.number) (map flush_state s.flushes.items) f (flush_state o)
      (omega (arith, length-map s.flushes.items flush_state)) good.consistent.numbers
      (λ y. same_number_equiv.symm y (flush_state o) ∙ ap (λ (x : FlushState). x.number == y.number) (sym at_index))

  pub open-found : flush_numbered (map flush_state s.flushes.items) o.number ≡ Some (flush_state o)
  open-found = find-alone (λ g. g.number == o.number) (map flush_state s.flushes.items) f (flush_state o) open-alone ∙ ap Some at_index

  pub open-prepared : IsPrepared config s.log o
  open-prepared = subst (IsPrepared config s.log) (sym is) (good.prepared f o within)

-- the rows of a prepared flush are those of the definitions
module _ (config : Config) (log : Slots GroupName (List Label)) (o : OpenFlush) (ready : IsPrepared config log o) (t : ℕ) where
  pub row_for-prepared : (integration : ℕ) → row_for o t integration ≡ row_at config t (flush_state o) integration
  row_for-prepared integration = ap (λ k. record { group = o.group; integration = integration; time = t; expiry = t + k; firing = o.sets.firing; resolved = o.sets.resolved }) ready.kept_for

  pub rows_with-prepared : (outcomes : List (ℕ × Outcome)) (rows : List RowView) → rows_with o t outcomes o.notified.items rows ≡ rows_after config t outcomes (flush_state o) rows
  rows_with-prepared outcomes rows = ap (λ (row : ℕ → RowView). fold (λ log a. log_with (row a.integration) log) rows (logged_of outcomes o.notified.items)) (λ i integration. row_for-prepared integration i)

-- a flush stays prepared where the same keys are known
pub prepared-of : (config : Config) (log new : Slots GroupName (List Label)) (o : OpenFlush) → KnowTheSame new log → IsPrepared config log o → IsPrepared config new o
prepared-of config log new o same ready =
    record { kept_for = ready.kept_for; notified = All-weaker (IsNotified log o) (IsNotified new o) (λ a. notified-of log new o a same) o.notified.items ready.notified }

pub all_prepared : (config : Config) (log new : Slots GroupName (List Label)) (os : List OpenFlush) → KnowTheSame new log → All (IsPrepared config log) os → All (IsPrepared config new) os
all_prepared config log new os same = All-weaker (IsPrepared config log) (IsPrepared config new) (λ o. prepared-of config log new o same) os

pub All-remove : {X : Type 0} (P : X → Type 0) (xs : List X) (i : ℕ) → All P xs → All P (remove xs i)
All-remove P xs i all = All-append P _ _ (All-take P i xs all) (All-drop P (suc i) xs all)

pub map-remove : {X Y : Type 0} (h : X → Y) (xs : List X) (i : ℕ) → map h (remove xs i) ≡ remove (map h xs) i
map-remove h [] zero = refl
map-remove h [] (suc i) = refl
map-remove h (x ∷ xs) zero = refl
map-remove h (x ∷ xs) (suc i) = ap (λ ys. h x ∷ ys) (map-remove h xs i)
