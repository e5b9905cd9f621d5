-- The notification log against the list of its rows, which the definitions read.
use Rattle.std.proofs.Common.{◌≡◌, ℕ, ◌+◌, Bool, true, false, cond, not, nat_eq, nat_le, Option, Some, None, List, [], ◌∷◌, ◌++◌, find, count_by, refl, sym, ap, ◌∙◌, subst, eqb-true, zero-add}
use Rattle.std.specs.Prelude.{IsPermutation}
use Rattle.std.specs.Cmp.{IsEquivalence}
use Rattle.std.specs.List.{AllByRecursion, IsDistinct}
use Rattle.std.specs.Map.{keys_of, lookup}
use Rattle.std.specs.Option.{option_map, option_flatten, is_some}
use Rattle.std.proofs.lemmas.Bool.{false≢true, and_parts}
use Rattle.std.proofs.lemmas.List.Sorted.{IsPermutation-refl, IsPermutation-cons, IsPermutation-sym, IsPermutation-trans, IsPermutation-to_front}
use Rattle.std.proofs.lemmas.List.Sums.{sum_by-cons}
use Rattle.std.proofs.lemmas.Map.Keys.{IsDistinct-head, IsDistinct-tail, IsDistinct-cons}
use Rattle.am_alerts.specs.declared.labels.Label.{Label}
use Rattle.am_nflog.proofs.CallerLemmas.{key_eq-laws}
use Rattle.am_nflog.specs.Log.{Slots, key_eq, is_known, row_of, with_key, with_row, collected, expired_count, is_expired, HasDistinctKeys}
use Rattle.am_nflog.specs.declared.key.LogKey.{LogKey}
use Rattle.am_nflog.specs.declared.row.LogRow.{LogRow}
use Rattle.am_model.specs.Begin.{is_entry_of, log_row, entry_of}
use Rattle.am_model.specs.Finish.{same_key, log_with}
use Rattle.am_model.specs.Lists.{without}
use Rattle.am_model.specs.State.{same_name}
use Rattle.am_model.specs.Maintenance.{has_expired}
use Rattle.am_model.specs.declared.group.GroupName.{GroupName}
use Rattle.am_model.specs.declared.views.RowView.{RowView}
use Rattle.am_board.specs.LogRows.{row_under, log_rows}
use Rattle.am_model.proofs.lists.Exchanges.{find-permutation, upsert-permutation, count_by-permutation, without-permutation}
use Rattle.am_model.proofs.lists.Distinct.{IsDistinct-nil}
use Rattle.am_model.proofs.states.Alike.{same_key_equiv, same_name-is, same_name_equiv}

-- ---- under the definitions' test of names

log_key-laws : IsEquivalence (key_eq same_name)
log_key-laws = key_eq-laws same_name_equiv

-- no row is under a key that no slot has
nothing_under : (key : LogKey GroupName) (log : Slots GroupName (List Label)) → AllByRecursion (λ k. key_eq same_name key k ≡ false) (keys_of log) → find (is_entry_of key.group key.integration) (log_rows log) ≡ None
nothing_under key [] all = refl
nothing_under key ((k, None) ∷ log) all = nothing_under key log all.1
nothing_under key ((k, Some row) ∷ log) all =
    ap (λ b. cond b (Some (row_under (k, row))) (find (is_entry_of key.group key.integration) (log_rows log))) all.0 ∙ nothing_under key log all.1

-- a key that is one with the first is none of the later ones
apart_from : (key k : LogKey GroupName) (ks : List (LogKey GroupName)) → key_eq same_name key k ≡ true → AllByRecursion (λ j. key_eq same_name k j ≡ false) ks → AllByRecursion (λ j. key_eq same_name key j ≡ false) ks
apart_from key k [] e all = tt
apart_from key k (j ∷ ks) e all = (log_key-laws.congr key k j e ∙ all.0, apart_from key k ks e all.1)

entry_at : (log : Slots GroupName (List Label)) (key : LogKey GroupName) → HasDistinctKeys same_name log → entry_of (log_rows log) key.group key.integration ≡ row_of same_name log key
entry_at [] key h = refl
entry_at ((k, None) ∷ log) key h =
    elim (key_eq same_name key k) as (λ b. key_eq same_name key k ≡ b → entry_of (log_rows log) key.group key.integration ≡ option_flatten (cond b (Some None) (lookup (key_eq same_name key) log))) [
      | true ↦ λ e. ap (option_map log_row) (nothing_under key log (apart_from key k (keys_of log) e (IsDistinct-head (key_eq same_name) k (keys_of log) h)))
      | false ↦ λ e. entry_at log key (IsDistinct-tail (key_eq same_name) k (keys_of log) h)
    ] refl
entry_at ((k, Some row) ∷ log) key h =
    elim (key_eq same_name key k) as (λ b. option_map log_row (cond b (Some (row_under (k, row))) (find (is_entry_of key.group key.integration) (log_rows log))) ≡ option_flatten (cond b (Some (Some row)) (lookup (key_eq same_name key) log))) [
      | true ↦ refl
      | false ↦ entry_at log key (IsDistinct-tail (key_eq same_name) k (keys_of log) h)
    ]

-- no two rows have one key
apart_rows : (k : LogKey GroupName) (row : LogRow (List Label)) (log : Slots GroupName (List Label)) → AllByRecursion (λ j. key_eq same_name k j ≡ false) (keys_of log) → AllByRecursion (λ r. same_key (row_under (k, row)) r ≡ false) (log_rows log)
apart_rows k row [] all = tt
apart_rows k row ((j, None) ∷ log) all = apart_rows k row log all.1
apart_rows k row ((j, Some other) ∷ log) all = (all.0, apart_rows k row log all.1)

distinct_rows : (log : Slots GroupName (List Label)) → HasDistinctKeys same_name log → IsDistinct same_key (log_rows log)
distinct_rows [] h = IsDistinct-nil same_key
distinct_rows ((k, None) ∷ log) h = distinct_rows log (IsDistinct-tail (key_eq same_name) k (keys_of log) h)
distinct_rows ((k, Some row) ∷ log) h =
    IsDistinct-cons same_key (row_under (k, row)) (log_rows log) (apart_rows k row log (IsDistinct-head (key_eq same_name) k (keys_of log) h)) (distinct_rows log (IsDistinct-tail (key_eq same_name) k (keys_of log) h))

-- ---- a row that is put

-- keys that the test takes for one are one
key_is : (a b : LogKey GroupName) → key_eq same_name a b ≡ true → a ≡ b
key_is a b h =
    let parts = and_parts (same_name a.group b.group) (nat_eq a.integration b.integration) h in
    let group = same_name-is a.group b.group parts.0 in
    let integration = eqb-true a.integration b.integration parts.1 in
    λ i. record { group = group i; integration = integration i }

-- a row goes to the end where none has its key
added_row : (key : LogKey GroupName) (row : LogRow (List Label)) (log : Slots GroupName (List Label)) → AllByRecursion (λ k. key_eq same_name key k ≡ false) (keys_of log) → log_with (row_under (key, row)) (log_rows log) ≡ log_rows log ++ row_under (key, row) ∷ []
added_row key row [] all = refl
added_row key row ((k, None) ∷ log) all = added_row key row log all.1
added_row key row ((k, Some other) ∷ log) all =
    ap (λ b. cond b (row_under (key, row) ∷ log_rows log) (row_under (k, other) ∷ log_with (row_under (key, row)) (log_rows log))) all.0 ∙ ap (λ l. row_under (k, other) ∷ l) (added_row key row log all.1)

put_row : (log : Slots GroupName (List Label)) (key : LogKey GroupName) (row : LogRow (List Label)) → HasDistinctKeys same_name log → is_known same_name log key ≡ true → IsPermutation (log_rows (with_row same_name log key row)) (log_with (row_under (key, row)) (log_rows log))
put_row [] key row h known = absurd (false≢true known)
put_row ((k, None) ∷ log) key row h known =
    elim (key_eq same_name key k) as (λ b. key_eq same_name key k ≡ b → is_some (cond b (Some None) (lookup (key_eq same_name key) log)) ≡ true → IsPermutation (log_rows (cond b ((k, Some row) ∷ log) ((k, None) ∷ with_row same_name log key row))) (log_with (row_under (key, row)) (log_rows log))) [
      | true ↦ λ e _.
          let added = added_row key row log (apart_from key k (keys_of log) e (IsDistinct-head (key_eq same_name) k (keys_of log) h)) in
          let moved = IsPermutation-sym (log_rows log ++ row_under (key, row) ∷ []) (row_under (key, row) ∷ log_rows log) (IsPermutation-to_front (log_rows log) (row_under (key, row))) in
          subst (λ j. IsPermutation (row_under (j, row) ∷ log_rows log) (log_with (row_under (key, row)) (log_rows log))) (key_is key k e) (subst (IsPermutation (row_under (key, row) ∷ log_rows log)) (sym added) moved)
      | false ↦ λ e there. put_row log key row (IsDistinct-tail (key_eq same_name) k (keys_of log) h) there
    ] refl known
put_row ((k, Some old) ∷ log) key row h known =
    elim (key_eq same_name key k) as (λ b. key_eq same_name key k ≡ b → is_some (cond b (Some (Some old)) (lookup (key_eq same_name key) log)) ≡ true → IsPermutation (log_rows (cond b ((k, Some row) ∷ log) ((k, Some old) ∷ with_row same_name log key row))) (cond b (row_under (key, row) ∷ log_rows log) (row_under (k, old) ∷ log_with (row_under (key, row)) (log_rows log)))) [
      | true ↦ λ e _. subst (λ j. IsPermutation (row_under (j, row) ∷ log_rows log) (row_under (key, row) ∷ log_rows log)) (key_is key k e) (IsPermutation-refl (row_under (key, row) ∷ log_rows log))
      | false ↦ λ e there. IsPermutation-cons (row_under (k, old)) (log_rows (with_row same_name log key row)) (log_with (row_under (key, row)) (log_rows log)) (put_row log key row (IsDistinct-tail (key_eq same_name) k (keys_of log) h) there)
    ] refl known

-- the same from any list of the rows
put_rows : (log : Slots GroupName (List Label)) (rows : List RowView) (key : LogKey GroupName) (row : LogRow (List Label)) → HasDistinctKeys same_name log → is_known same_name log key ≡ true → IsPermutation (log_rows log) rows
    → IsPermutation (log_rows (with_row same_name log key row)) (log_with (row_under (key, row)) rows)
put_rows log rows key row h known moved =
    IsPermutation-trans (log_rows (with_row same_name log key row)) (log_with (row_under (key, row)) (log_rows log)) (log_with (row_under (key, row)) rows) (put_row log key row h known)
    (upsert-permutation same_key same_key_equiv (row_under (key, row)) (log_rows log) rows moved (distinct_rows log h))

-- ---- the rows that are collected

pub log_rows-collected : (t : ℕ) (log : Slots GroupName (List Label)) → log_rows (collected t log) ≡ without (has_expired t) (log_rows log)
log_rows-collected t [] = refl
log_rows-collected t ((k, None) ∷ log) = log_rows-collected t log
log_rows-collected t ((k, Some row) ∷ log) =
    elim (nat_le row.expiry t) as (λ b. log_rows ((k, cond b None (Some row)) ∷ collected t log) ≡ cond (not b) (row_under (k, row) ∷ without (has_expired t) (log_rows log)) (without (has_expired t) (log_rows log))) [
      | true ↦ log_rows-collected t log
      | false ↦ ap (λ l. row_under (k, row) ∷ l) (log_rows-collected t log)
    ]

pub expired_count-rows : (t : ℕ) (log : Slots GroupName (List Label)) → expired_count t log ≡ count_by (has_expired t) (log_rows log)
expired_count-rows t [] = refl
expired_count-rows t ((k, None) ∷ log) = sum_by-cons (λ (s : LogKey GroupName × Option (LogRow (List Label))). cond (is_expired t s.1) 1 0) (k, None) log ∙ zero-add _ ∙ expired_count-rows t log
expired_count-rows t ((k, Some row) ∷ log) =
    sum_by-cons (λ (s : LogKey GroupName × Option (LogRow (List Label))). cond (is_expired t s.1) 1 0) (k, Some row) log
    ∙ ap (λ n. cond (nat_le row.expiry t) 1 0 + n) (expired_count-rows t log)
    ∙ sym (sum_by-cons (λ (r : RowView). cond (has_expired t r) 1 0) (row_under (k, row)) (log_rows log))

-- the same of any list of the rows
pub collected-rows : (t : ℕ) (log : Slots GroupName (List Label)) (rows : List RowView) → IsPermutation (log_rows log) rows → IsPermutation (log_rows (collected t log)) (without (has_expired t) rows)
collected-rows t log rows moved =
    subst (λ l. IsPermutation l (without (has_expired t) rows)) (sym (log_rows-collected t log)) (without-permutation (has_expired t) (log_rows log) rows moved)

pub expired_count-any_rows : (t : ℕ) (log : Slots GroupName (List Label)) (rows : List RowView) → IsPermutation (log_rows log) rows → expired_count t log ≡ count_by (has_expired t) rows
expired_count-any_rows t log rows moved = expired_count-rows t log ∙ sym (count_by-permutation (has_expired t) (log_rows log) rows moved)

-- ---- any order of the rows

-- a row that has the entry's group and integration is the only one
one_entry : (name : GroupName) (integration : ℕ) (a b : RowView) → is_entry_of name integration a ≡ true → is_entry_of name integration b ≡ true → same_key a b ≡ true
one_entry name integration a b e f =
    let key : LogKey GroupName = record { group = name; integration = integration } in
    let of : RowView → LogKey GroupName = λ r. record { group = r.group; integration = r.integration } in
    sym (log_key-laws.congr key (of a) (of b) e) ∙ f

-- the row of an integration is the same in any order of the rows
pub find_row-permutation : (rows others : List RowView) → IsPermutation rows others → IsDistinct same_key rows → (name : GroupName) (integration : ℕ)
    → find (is_entry_of name integration) rows ≡ find (is_entry_of name integration) others
find_row-permutation rows others moved apart name integration =
    find-permutation same_key same_key_equiv (is_entry_of name integration) (one_entry name integration) rows others moved apart

-- and so is its entry
pub entry_of-permutation : (rows others : List RowView) → IsPermutation rows others → IsDistinct same_key rows → (name : GroupName) (integration : ℕ) → entry_of rows name integration ≡ entry_of others name integration
entry_of-permutation rows others moved apart name integration = ap (option_map log_row) (find_row-permutation rows others moved apart name integration)

-- ---- under the names' own test

-- a new key has no row
pub log_rows-with_key : (eq : GroupName → GroupName → Bool) (log : Slots GroupName (List Label)) (key : LogKey GroupName) → log_rows (with_key eq log key) ≡ log_rows log
log_rows-with_key eq log key = by (is_known eq log key)
  where
    none : (ss : Slots GroupName (List Label)) → log_rows (ss ++ (key, None) ∷ []) ≡ log_rows ss
    none [] = refl
    none ((k, None) ∷ ss) = none ss
    none ((k, Some row) ∷ ss) = ap (λ l. row_under (k, row) ∷ l) (none ss)

    by : (b : Bool) → log_rows (cond b log (log ++ (key, None) ∷ [])) ≡ log_rows log
    by true = refl
    by false = none log

module _ (eq : GroupName → GroupName → Bool) (returned : (a b : GroupName) → eq a b ≡ same_name a b) where
  one_test : same_name ≡ eq
  one_test i a b = sym (returned a b) i

  -- the entry of an integration is the row that is under its key
  pub entry_of-log_rows : (log : Slots GroupName (List Label)) (name : GroupName) (integration : ℕ) → HasDistinctKeys eq log → entry_of (log_rows log) name integration ≡ row_of eq log (record { group = name; integration = integration })
  entry_of-log_rows log name integration = subst (λ e. HasDistinctKeys e log → entry_of (log_rows log) name integration ≡ row_of e log (record { group = name; integration = integration })) one_test (entry_at log (record { group = name; integration = integration }))

  -- no two rows have one key
  pub IsDistinct-log_rows : (log : Slots GroupName (List Label)) → HasDistinctKeys eq log → IsDistinct same_key (log_rows log)
  IsDistinct-log_rows log = subst (λ e. HasDistinctKeys e log → IsDistinct same_key (log_rows log)) one_test (distinct_rows log)

  -- the same from any list of the rows
  pub entry_of-any_rows : (log : Slots GroupName (List Label)) (rows : List RowView) (name : GroupName) (integration : ℕ) → HasDistinctKeys eq log → IsPermutation (log_rows log) rows → entry_of rows name integration ≡ row_of eq log (record { group = name; integration = integration })
  entry_of-any_rows log rows name integration h moved =
      sym (entry_of-permutation (log_rows log) rows moved (IsDistinct-log_rows log h) name integration) ∙ entry_of-log_rows log name integration h

  -- a row that is put at a known key is put into the list of the rows
  pub log_rows-with_row : (log : Slots GroupName (List Label)) (key : LogKey GroupName) (row : LogRow (List Label)) → HasDistinctKeys eq log → is_known eq log key ≡ true → IsPermutation (log_rows (with_row eq log key row)) (log_with (row_under (key, row)) (log_rows log))
  log_rows-with_row log key row = subst (λ e. HasDistinctKeys e log → is_known e log key ≡ true → IsPermutation (log_rows (with_row e log key row)) (log_with (row_under (key, row)) (log_rows log))) one_test (put_row log key row)

  -- the same from any list of the rows
  pub with_row-rows : (log : Slots GroupName (List Label)) (rows : List RowView) (key : LogKey GroupName) (row : LogRow (List Label)) → HasDistinctKeys eq log → is_known eq log key ≡ true → IsPermutation (log_rows log) rows
      → IsPermutation (log_rows (with_row eq log key row)) (log_with (row_under (key, row)) rows)
  with_row-rows log rows key row = subst (λ e. HasDistinctKeys e log → is_known e log key ≡ true → IsPermutation (log_rows log) rows → IsPermutation (log_rows (with_row e log key row)) (log_with (row_under (key, row)) rows)) one_test (put_rows log rows key row)
