-- What a merge of a row leaves of the log.
use Rattle.std.proofs.Common.{◌≡◌, Bool, true, false, Option, Some, None, List, [], ◌∷◌, ◌++◌, find, refl, sym, ap, ◌∙◌, subst, if◌then◌else◌}
use Rattle.std.specs.Prelude.{ℕ, IsPermutation, IsTrue, nat_lt, All}
use Rattle.std.specs.List.{list_any, IsDistinct}
use Rattle.std.specs.Map.{keys_of}
use Rattle.std.specs.Option.{option_map}
use Rattle.std.proofs.lemmas.Bool.{or_left, or_right}
use Rattle.std.proofs.lemmas.List.{map-append}
use Rattle.std.proofs.lemmas.List.Elements.{All-weaker}
use Rattle.std.proofs.lemmas.List.Sorted.{IsPermutation-refl}
use Rattle.am_alerts.specs.declared.labels.Label.{Label}
use Rattle.am_nflog.proofs.CallerLemmas.{is_known-keys, is_known-with_key, key_eq-laws, keys-with_row}
use Rattle.am_nflog.specs.Log.{Slots, key_eq, is_known, is_later, merged, row_of, with_key, with_row, HasDistinctKeys}
use Rattle.am_nflog.specs.declared.key.LogKey.{LogKey}
use Rattle.am_model.specs.Begin.{log_row}
use Rattle.am_model.specs.Finish.{same_key, log_with}
use Rattle.am_model.specs.Load.{is_put, loaded, loaded_by}
use Rattle.am_model.specs.State.{same_name}
use Rattle.am_model.specs.declared.config.Config.{Config}
use Rattle.am_model.specs.declared.group.GroupName.{GroupName}
use Rattle.am_model.specs.declared.record.Loaded.{Loaded}
use Rattle.am_model.specs.declared.record.Loaded.TheVariants.{Put, Kept, Expired}
use Rattle.am_model.specs.declared.views.RowView.{RowView}
use Rattle.am_model.proofs.lists.Distinct.{IsDistinct-last}
use Rattle.am_model.proofs.states.Alike.{same_name_equiv}
use Rattle.am_board.specs.Loading.{key_of, KnowsNoLess}
use Rattle.am_board.specs.LogRows.{log_rows}
use Rattle.am_board.specs.Refinement.{IsNotified, IsPrepared}
use Rattle.am_board.specs.declared.flush.OpenFlush.{OpenFlush}
use Rattle.am_board.proofs.lemmas.invariant.LogRows.{entry_of-log_rows, log_rows-with_key, log_rows-with_row}

-- keys that differ with one more did so before
fewer_keys : (log : Slots GroupName (List Label)) (key : LogKey GroupName) → HasDistinctKeys same_name (with_key same_name log key) → HasDistinctKeys same_name log
fewer_keys log key = by (is_known same_name log key)
  where
    by : (b : Bool) → HasDistinctKeys same_name (if b then log else log ++ (key, None) ∷ []) → HasDistinctKeys same_name log
    by true h = h
    by false h = (IsDistinct-last (key_eq same_name) (keys_of log) key (subst (IsDistinct (key_eq same_name)) (map-append (λ slot. slot.0) log ((key, None) ∷ [])) h)).0

-- what becomes of a row by the log's own row, in the log's terms
by_entry : (row : RowView) (entry : Option RowView) → loaded_by row entry ≡ (if is_later (log_row row) (option_map log_row entry) then Put else Kept)
by_entry row None = refl
by_entry row (Some entry) = refl

module _ (log new : Slots GroupName (List Label)) (row : RowView) (is : new ≡ merged same_name log (key_of row) (log_row row)) (distinct : HasDistinctKeys same_name new) where
  abbrev key : LogKey GroupName
  key = key_of row

  abbrev later : Bool
  later = is_later (log_row row) (row_of same_name log key)

  abbrev put : Slots GroupName (List Label)
  put = with_row same_name (with_key same_name log key) key (log_row row)

  -- the log after it, by whether the row is later
  by_time : (b : Bool) → later ≡ b → new ≡ (if b then put else log)
  by_time b e = is ∙ ap (λ c. if c then put else log) e

  put_keys : later ≡ true → keys_of new ≡ keys_of (with_key same_name log key)
  put_keys e = ap keys_of (by_time true e) ∙ keys-with_row same_name (with_key same_name log key) key (log_row row)

  with_key_distinct : later ≡ true → HasDistinctKeys same_name (with_key same_name log key)
  with_key_distinct e = subst (IsDistinct (key_eq same_name)) (put_keys e) distinct

  before : HasDistinctKeys same_name log
  before = by later refl
    where
      by : (b : Bool) → later ≡ b → HasDistinctKeys same_name log
      by true e = fewer_keys log key (with_key_distinct e)
      by false e = subst (HasDistinctKeys same_name) (by_time false e) distinct

  -- what becomes of the row
  pub merge-loaded : (t : ℕ) (b : Bool) → nat_lt row.expiry t ≡ false → later ≡ b → loaded (log_rows log) t row ≡ (if b then Put else Kept)
  merge-loaded t b e f =
      ap (λ c. if c then Expired else loaded_by row (find (same_key row) (log_rows log))) e
      ∙ by_entry row (find (same_key row) (log_rows log))
      ∙ ap (λ o. if is_later (log_row row) o then Put else Kept) (entry_of-log_rows same_name (λ a b. refl) log row.group row.integration before)
      ∙ ap (λ c. if c then Put else Kept) f

  -- the rows of the log after it
  pub merge-rows : (t : ℕ) → nat_lt row.expiry t ≡ false → IsPermutation (log_rows new) (if is_put (loaded (log_rows log) t row) then log_with row (log_rows log) else log_rows log)
  merge-rows t e = by later refl
    where
      after : Loaded → List RowView
      after l = if is_put l then log_with row (log_rows log) else log_rows log

      known : is_known same_name (with_key same_name log key) key ≡ true
      known = is_known-with_key same_name log same_name_equiv key key ∙ or_right (is_known same_name log key) (key_eq same_name key key) ((key_eq-laws same_name_equiv).refl key)

      by : (b : Bool) → later ≡ b → IsPermutation (log_rows new) (after (loaded (log_rows log) t row))
      by true f =
          let moved = log_rows-with_row same_name (λ a b. refl) (with_key same_name log key) key (log_row row) (with_key_distinct f) known in
          subst (λ l. IsPermutation (log_rows new) (after l)) (sym (merge-loaded t true e f))
          (subst (λ l. IsPermutation (log_rows l) (log_with row (log_rows log))) (sym (by_time true f))
          (subst (λ rows. IsPermutation (log_rows put) (log_with row rows)) (log_rows-with_key same_name log key) moved))
      by false f =
          subst (λ l. IsPermutation (log_rows new) (after l)) (sym (merge-loaded t false e f))
          (subst (λ l. IsPermutation (log_rows l) (log_rows log)) (sym (by_time false f)) (IsPermutation-refl (log_rows log)))

  -- each key that was known stays so
  pub merge-known : KnowsNoLess log new
  merge-known q known = by later refl
    where
      by : (b : Bool) → later ≡ b → IsTrue (is_known same_name new q)
      by true e =
          is_known-keys same_name new q ∙ ap (list_any (key_eq same_name q)) (put_keys e) ∙ sym (is_known-keys same_name (with_key same_name log key) q)
          ∙ is_known-with_key same_name log same_name_equiv key q ∙ or_left (is_known same_name log q) (key_eq same_name q key) known
      by false e = subst (λ l. IsTrue (is_known same_name l q)) (sym (by_time false e)) known

-- what was prepared stays so
pub prepared-knowing : (config : Config) (log new : Slots GroupName (List Label)) (fs : List OpenFlush) → KnowsNoLess log new → All (IsPrepared config log) fs → All (IsPrepared config new) fs
prepared-knowing config log new fs more h =
    All-weaker (IsPrepared config log) (IsPrepared config new)
    (λ f k. record {
      kept_for = k.kept_for;
      notified = All-weaker (IsNotified log f) (IsNotified new f) (λ a j. record { group = j.group; known = more a.key j.known; sets = j.sets }) f.notified.items k.notified;
    })
    fs h
