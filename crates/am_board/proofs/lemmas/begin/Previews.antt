-- What a begin is to do, as the walks over the members of a group and over its receiver's integrations come to it.
use Rattle.std.proofs.Common.{◌≡◌, ◌+◌, ◌<◌, ℕ, Bool, true, false, if◌then◌else◌, Option, Some, None, List, [], ◌∷◌, ◌++◌, length, map, find, take, get_or, refl, sym, ap, ◌∙◌, subst}
use Rattle.std.specs.Prelude.{All, IfSome}
use Rattle.std.specs.List.{enumerate_from}
use Rattle.std.specs.Option.{option_map}
use Rattle.std.proofs.lemmas.List.{map-append}
use Rattle.std.proofs.lemmas.List.Elements.{recursion_from_All}
use Rattle.am_alerts.specs.declared.labels.Label.{Label}
use Rattle.am_nflog.specs.Log.{Slots, row_of, HasDistinctKeys}
use Rattle.am_nflog.specs.declared.key.LogKey.{LogKey}
use Rattle.am_model.specs.declared.config.Integration.{Integration}
use Rattle.am_model.specs.declared.group.GroupName.{GroupName}
use Rattle.am_model.specs.declared.reason.Reason.{Reason}
use Rattle.am_model.specs.declared.views.RowView.{RowView}
use Rattle.am_model.specs.Begin.{entry_of, is_entry_of, log_row}
use Rattle.am_model.specs.State.{same_name}
use Rattle.am_model.proofs.lists.Distinct.{all-find}
use Rattle.am_board.specs.LogRows.{log_rows}
use Rattle.am_board.proofs.lemmas.begin.Updates.{enumerate-more}
use Rattle.am_board.proofs.lemmas.invariant.LogRows.{entry_of-log_rows}

-- one integration more, with its reason
pub reasons-more : (reason : ℕ × Integration → Reason) (is : List Integration) (i : ℕ) (one : Integration) → i < length is → one ≡ get_or is i one
    → map reason (enumerate_from 0 (take (i + 1) is)) ≡ map reason (enumerate_from 0 (take i is)) ++ reason (i, one) ∷ []
reasons-more reason is i one within here =
    ap (map reason) (enumerate-more is i one within here) ∙ map-append reason (enumerate_from 0 (take i is)) ((i, one) ∷ [])

-- one reason more, if reasons are wanted
pub wanted-more : (why : Bool) (reasons more : List Reason) (one : Reason) → more ≡ reasons ++ one ∷ [] → (if why then reasons else []) ++ (if why then one ∷ [] else []) ≡ (if why then more else [])
wanted-more true reasons more one is = sym is
wanted-more false reasons more one is = refl

module _ (eq : GroupName → GroupName → Bool) (same : (a b : GroupName) → eq a b ≡ same_name a b) (log : Slots GroupName (List Label)) (key : LogKey GroupName) (name : GroupName) (i : ℕ)
    (apart : HasDistinctKeys eq log) (group : key.group ≡ name) (integration : key.integration ≡ i) where
  -- the row under a key is the entry
  pub kept-entry : entry_of (log_rows log) name i ≡ row_of eq log key
  kept-entry =
      ap (λ n. entry_of (log_rows log) n i) (sym group) ∙ (ap (entry_of (log_rows log) key.group) (sym integration) ∙ entry_of-log_rows eq same log key.group key.integration apart)

  -- and what holds of all rows holds of it
  pub kept-holds : (P : ℕ → Type 0) → All (λ row. P row.time) (log_rows log) → IfSome (row_of eq log key) (λ row. P row.time)
  kept-holds P all = subst (λ o. IfSome o (λ row. P row.time)) kept-entry (by (find (is_entry_of name i) (log_rows log)) refl)
    where
      by : (o : Option RowView) → find (is_entry_of name i) (log_rows log) ≡ o → IfSome (option_map log_row o) (λ row. P row.time)
      by None found = tt
      by (Some row) found = all-find (λ (r : RowView). P r.time) (is_entry_of name i) row (log_rows log) (recursion_from_All (λ (r : RowView). P r.time) (log_rows log) all) found
