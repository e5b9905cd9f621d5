-- The rows that a finish logs, one integration after the other.
use Rattle.std.proofs.Common.{◌≡◌, ℕ, ◌+◌, ◌≤◌, Bool, true, false, cond, not, ◌&&◌}
use Rattle.std.proofs.Common.{List, [], ◌∷◌, ◌++◌, length, map, filter, fold, sym, ap, ◌∙◌, subst, arith, length-append}
use Rattle.std.specs.Prelude.{IsTrue}
use Rattle.std.specs.List.{list_all}
use Rattle.std.proofs.Math.Bool.{and-true}
use Rattle.std.proofs.lemmas.List.{append-nil, length-map, map-append}
use Rattle.std.proofs.lemmas.List.Folds.{list_all-append}
use Rattle.std.proofs.lemmas.List.Elements.{filter-append}
use Rattle.std.proofs.lemmas.List.Sums.{length-filter, count_by-le-length, fold-append}
use Rattle.am_alerts.specs.declared.labels.Label.{Label}
use Rattle.am_nflog.specs.Log.{Slots}
use Rattle.am_retry.specs.declared.outcome.Outcome.{Outcome}
use Rattle.am_model.specs.Finish.{has_succeeded, log_with}
use Rattle.am_board.specs.Refinement.{IsNotified, notified_state_of}
use Rattle.am_board.specs.Finishing.{row_for, logged_of, rows_with, KnowTheSame}
use Rattle.am_board.specs.declared.flush.Notified.{Notified}
use Rattle.am_board.specs.declared.flush.OpenFlush.{OpenFlush}
use Rattle.am_model.specs.declared.group.GroupName.{GroupName}
use Rattle.am_model.specs.declared.views.RowView.{RowView}

module _ (outcomes : List (ℕ × Outcome)) where
  logged_of-more : (xs : List Notified) (x : Notified) → logged_of outcomes (xs ++ x ∷ []) ≡ logged_of outcomes xs ++ logged_of outcomes (x ∷ [])
  logged_of-more xs x =
      ap (filter (λ a. has_succeeded outcomes a && not a.noted)) (map-append notified_state_of xs (x ∷ []))
      ∙ filter-append (λ a. has_succeeded outcomes a && not a.noted) (map notified_state_of xs) (notified_state_of x ∷ [])

  pub rows_with-more : (f : OpenFlush) (t : ℕ) (xs : List Notified) (x : Notified) (rows : List RowView) → rows_with f t outcomes (xs ++ x ∷ []) rows ≡ rows_with f t outcomes (x ∷ []) (rows_with f t outcomes xs rows)
  rows_with-more f t xs x rows =
      ap (fold (λ log a. log_with (row_for f t a.integration) log) rows) (logged_of-more xs x)
      ∙ fold-append (λ log a. log_with (row_for f t a.integration) log) rows (logged_of outcomes xs) (logged_of outcomes (x ∷ []))

  pub logged-more : (xs : List Notified) (x : Notified) (logged one : ℕ) → logged ≡ length (logged_of outcomes xs) → one ≡ length (logged_of outcomes (x ∷ [])) → logged + one ≡ length (logged_of outcomes (xs ++ x ∷ []))
  logged-more xs x logged one e h =
      let all : length (logged_of outcomes (xs ++ x ∷ [])) ≡ length (logged_of outcomes xs) + length (logged_of outcomes (x ∷ [])) = ap length (logged_of-more xs x) ∙ length-append (logged_of outcomes xs) (logged_of outcomes (x ∷ [])) in
      omega (arith, all)

  pub logged-at-most : (xs : List Notified) → length (logged_of outcomes xs) ≤ length xs
  logged-at-most xs =
      omega (arith, length-filter (λ a. has_succeeded outcomes a && not a.noted) (map notified_state_of xs), count_by-le-length (λ a. has_succeeded outcomes a && not a.noted) (map notified_state_of xs), length-map xs notified_state_of)

  -- an integration that didn't succeed is passed over
  module _ (xs : List Notified) (x : Notified) (failed : has_succeeded outcomes (notified_state_of x) ≡ false) where
    pub logged-same : logged_of outcomes xs ≡ logged_of outcomes (xs ++ x ∷ [])
    logged-same =
        sym (logged_of-more xs x
        ∙ (ap (λ b. logged_of outcomes xs ++ cond (b && not (notified_state_of x).noted) (notified_state_of x ∷ []) []) failed ∙ append-nil (logged_of outcomes xs)))

    pub rows_with-same : (f : OpenFlush) (t : ℕ) (rows : List RowView) → rows_with f t outcomes xs rows ≡ rows_with f t outcomes (xs ++ x ∷ []) rows
    rows_with-same f t rows = ap (fold (λ log a. log_with (row_for f t a.integration) log) rows) logged-same

  -- whether all succeeded, with an integration more
  pub all-more : (xs : List Notified) (x : Notified) (b : Bool) → has_succeeded outcomes (notified_state_of x) ≡ b
      → list_all (λ a. has_succeeded outcomes (notified_state_of a)) (xs ++ x ∷ []) ≡ (list_all (λ a. has_succeeded outcomes (notified_state_of a)) xs && b)
  all-more xs x b is =
      let all = list_all (λ a. has_succeeded outcomes (notified_state_of a)) xs in
      list_all-append (λ a. has_succeeded outcomes (notified_state_of a)) xs (x ∷ [])
      ∙ (ap (λ c. all && (c && true)) is ∙ ap (λ c. all && c) (and-true b))

-- what is asked of one log is asked of another that knows the same keys
pub notified-of : (log new : Slots GroupName (List Label)) (f : OpenFlush) (a : Notified) → KnowTheSame new log → IsNotified log f a → IsNotified new f a
notified-of log new f a same notified = record { group = notified.group; known = subst IsTrue (sym (same a.key)) notified.known; sets = notified.sets }
