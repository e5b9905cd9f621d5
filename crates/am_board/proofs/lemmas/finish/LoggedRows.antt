-- The rows that a note or a finish of an open flush logs, as they are made of the stored flush.
use Rattle.std.proofs.Common.{◌≡◌, ℕ, ◌+◌, ◌*◌, ◌^◌, ◌<◌, ◌≤◌, ◌==◌, min, max, Bool, true, false, not, ◌&&◌, ◌||◌, Option, Some, None, is_none, is_some, List, [], ◌∷◌, ◌++◌, length, map, filter, get_or, take, refl, sym, ap, ◌∙◌, subst, arith}
use Rattle.std.specs.Prelude.{position}
use Rattle.std.proofs.lemmas.List.{map-append, take_more}
use Rattle.std.proofs.lemmas.List.Elements.{filter-append}
use Rattle.am_alerts.specs.declared.limits.TheConstants.{MAX_DURATION, MAX_TIME}
use Rattle.am_retry.specs.declared.outcome.Outcome.{Outcome}
use Rattle.am_model.specs.Configured.{route_of}
use Rattle.am_model.specs.Finish.{has_succeeded}
use Rattle.am_model.specs.State.{flush_numbered}
use Rattle.am_model.specs.declared.config.Config.{Config}
use Rattle.am_model.specs.declared.views.RowView.{RowView}
use Rattle.am_board.specs.Finishing.{logged_of, row_for}
use Rattle.am_board.specs.Logged.{row_of_note, rows_of_finish}
use Rattle.am_board.specs.Refinement.{IsPrepared, flush_state, notified_state_of, state_of}
use Rattle.am_board.specs.Step.{StateInvariant}
use Rattle.am_board.specs.declared.flush.Notified.{Notified}
use Rattle.am_board.specs.declared.flush.OpenFlush.{OpenFlush}
use Rattle.am_board.specs.declared.state.State as kept
use Rattle.am_board.proofs.lemmas.finish.Flushes.{row_for-prepared}
use Rattle.am_board.proofs.lemmas.note.Noting.{flush-found, flush-missing}

-- ---- one integration after the other

-- the rows of the integrations before an index, and of the one that is there
module _ (flush : OpenFlush) (t : ℕ) (outcomes : List (ℕ × Outcome)) where
  abbrev pub rows_for : List Notified → List RowView
  rows_for xs = map (λ a. row_for flush t a.integration) (logged_of outcomes xs)

  rows_for-append : (xs ys : List Notified) → rows_for (xs ++ ys) ≡ rows_for xs ++ rows_for ys
  rows_for-append xs ys =
      ap (λ zs. map (λ a. row_for flush t a.integration) (filter (λ a. has_succeeded outcomes a && not a.noted) zs)) (map-append notified_state_of xs ys)
      ∙ ap (map (λ a. row_for flush t a.integration)) (filter-append (λ a. has_succeeded outcomes a && not a.noted) (map notified_state_of xs) (map notified_state_of ys))
      ∙ map-append (λ a. row_for flush t a.integration) (logged_of outcomes xs) (logged_of outcomes ys)

  pub rows_for-more : (xs : List Notified) (i : ℕ) (x : Notified) → i < length xs → x ≡ get_or xs i x → rows_for (take (i + 1) xs) ≡ rows_for (take i xs) ++ rows_for (x ∷ [])
  rows_for-more xs i x within is =
      ap rows_for (take_more xs i x within ∙ ap (λ y. take i xs ++ y ∷ []) (sym is)) ∙ rows_for-append (take i xs) (x ∷ [])

-- whether a finish logs an integration: it isn't noted, and it has nothing to send or was delivered
pub logged-is : {X : Type 0} (sets : Option X) (nothing delivered : Bool) → (is_some sets && (nothing || delivered)) ≡ ((is_none sets || nothing || delivered) && not (is_none sets))
logged-is None true delivered = refl
logged-is None false delivered = refl
logged-is (Some x) true delivered = refl
logged-is (Some x) false true = refl
logged-is (Some x) false false = refl

-- ---- the flush that was found

module _ (config : Config) (s : kept.State) (good : StateInvariant config s) (f : ℕ) (o : OpenFlush) (within : f < length s.flushes.items) (is : o ≡ get_or s.flushes.items f o) where
  prepared : IsPrepared config s.log o
  prepared = subst (IsPrepared config s.log) (sym is) (good.prepared f o within)

  -- its rows expire at a time of 64 bits
  pub expiry-fits : (now : ℕ) → max s.clock (min now MAX_TIME) + o.kept_for < 2 ^ 64
  expiry-fits now =
      let clock : s.clock ≤ MAX_TIME = good.consistent.clock in
      let kept_for : o.kept_for ≡ min config.retention (2 * (route_of config o.group).repeat_interval) = prepared.kept_for in
      let retention : config.retention ≤ MAX_DURATION = good.retention in
      omega arith

  module _ (number : ℕ) (at : position (λ (g : OpenFlush). g.number == number) s.flushes.items ≡ Some f) where
    there : flush_numbered (state_of s).flushes number ≡ Some (flush_state o)
    there = flush-found s.flushes.items number f o at ∙ ap (λ (g : OpenFlush). Some (flush_state g)) (sym is)

    pub note-row : (t integration : ℕ) → Some (row_for o t integration) ≡ row_of_note config t integration (flush_numbered (state_of s).flushes number)
    note-row t integration =
        ap Some (row_for-prepared config s.log o prepared t integration) ∙ ap (row_of_note config t integration) (sym there)

    pub finish-rows : (t : ℕ) (outcomes : List (ℕ × Outcome)) → rows_for o t outcomes o.notified.items ≡ rows_of_finish config t outcomes (flush_numbered (state_of s).flushes number)
    finish-rows t outcomes =
        ap (λ (row : ℕ → RowView). map (λ a. row a.integration) (logged_of outcomes o.notified.items)) (λ i integration. row_for-prepared config s.log o prepared t integration i)
        ∙ ap (rows_of_finish config t outcomes) (sym there)

-- ---- no flush of the number

module _ (config : Config) (s : kept.State) (number : ℕ) (at : position (λ (g : OpenFlush). g.number == number) s.flushes.items ≡ None) where
  pub note-no_row : (t integration : ℕ) → None ≡ row_of_note config t integration (flush_numbered (state_of s).flushes number)
  note-no_row t integration = ap (row_of_note config t integration) (sym (flush-missing s.flushes.items number at))

  pub finish-no_rows : (t : ℕ) (outcomes : List (ℕ × Outcome)) → [] ≡ rows_of_finish config t outcomes (flush_numbered (state_of s).flushes number)
  finish-no_rows t outcomes = ap (rows_of_finish config t outcomes) (sym (flush-missing s.flushes.items number at))
