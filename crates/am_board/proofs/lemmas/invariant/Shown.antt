-- What a board shows, as loops over a kept state come to it.
use Rattle.std.proofs.Common.{◌≡◌, ℕ, ◌+◌, ◌<◌, Bool, cond, List, [], ◌∷◌, ◌++◌, length, map, get_or, take, Option, Some, None, is_some, refl, sym, ap, ◌∙◌, subst, arith, length-append}
use Rattle.std.specs.Prelude.{All, slice_get, sum_by}
use Rattle.std.specs.Option.{option_map}
use Rattle.std.proofs.lemmas.List.{get_or-map, length-map, map-append, take_more}
use Rattle.std.proofs.lemmas.List.Elements.{filter_map-append}
use Rattle.std.proofs.lemmas.List.Sums.{sum_by-cons}
use Rattle.std.proofs.lemmas.Option.{get_or_from_slice_get}
use Rattle.am_alerts.specs.declared.labels.Label.{Label}
use Rattle.am_nflog.specs.Log.{Slots, rows_of}
use Rattle.am_nflog.specs.declared.key.LogKey.{LogKey}
use Rattle.am_nflog.specs.declared.row.LogRow.{LogRow}
use Rattle.am_board.specs.declared.group.Group.{Group}
use Rattle.am_model.specs.declared.group.GroupName.{GroupName}
use Rattle.am_board.specs.declared.group.Member.{Member}
use Rattle.am_board.specs.Refinement.{member_state, group_state}
use Rattle.am_board.specs.LogRows.{row_under, log_rows}
use Rattle.am_model.specs.State.{GroupState}
use Rattle.am_model.specs.Views.{group_view}

-- ---- the rows of a log

pub log_rows-append : (xs ys : Slots GroupName (List Label)) → log_rows (xs ++ ys) ≡ log_rows xs ++ log_rows ys
log_rows-append xs ys =
    ap (map row_under) (filter_map-append (λ (slot : LogKey GroupName × Option (LogRow (List Label))). option_map (λ row. (slot.0, row)) slot.1) xs ys)
    ∙ map-append row_under (rows_of xs) (rows_of ys)

-- one key more
pub log_rows-more : (log : Slots GroupName (List Label)) (i : ℕ) (slot : LogKey GroupName × Option (LogRow (List Label))) → i < length log → slice_get log i ≡ Some slot → log_rows (take (i + 1) log) ≡ log_rows (take i log) ++ log_rows (slot ∷ [])
log_rows-more log i slot within at =
    ap log_rows (take_more log i slot within ∙ ap (λ s. take i log ++ s ∷ []) (get_or_from_slice_get log i slot slot at))
    ∙ log_rows-append (take i log) (slot ∷ [])

pub rows-added : (log : Slots GroupName (List Label)) (i : ℕ) (key : LogKey GroupName) (row : Option (LogRow (List Label))) (b : Bool) → i < length log → slice_get log i ≡ Some (key, row) → is_some row ≡ b → length (log_rows (take (i + 1) log)) ≡ length (log_rows (take i log)) + cond b 1 0
rows-added log i key row b within at returned =
    ap length (log_rows-more log i (key, row) within at)
    ∙ length-append (log_rows (take i log)) (log_rows ((key, row) ∷ []))
    ∙ ap (λ n. length (log_rows (take i log)) + n) (one row ∙ ap (λ d. cond d 1 0) returned)
  where
    one : (o : Option (LogRow (List Label))) → length (log_rows ((key, o) ∷ [])) ≡ cond (is_some o) 1 0
    one None = refl
    one (Some r) = refl

-- ---- groups and their alerts

pub alerts_kept : (members : List Member) → map (λ m. m.alert) members ≡ map (λ m. m.alert) (map member_state members)
alerts_kept [] = refl
alerts_kept (m ∷ members) = ap (λ l. m.alert ∷ l) (alerts_kept members)

pub views_kept : (groups : List Group) → map (λ g. group_view (group_state g)) groups ≡ map group_view (map group_state groups)
views_kept [] = refl
views_kept (g ∷ groups) = ap (λ l. group_view (group_state g) ∷ l) (views_kept groups)

-- the number of alerts over all groups
pub alerts_counted : (groups : List Group) → sum_by (λ g. length g.members.items) groups ≡ sum_by (λ (g : GroupState). length g.members) (map group_state groups)
alerts_counted [] = refl
alerts_counted (g ∷ groups) =
    sum_by-cons (λ (h : Group). length h.members.items) g groups
    ∙ (λ i. sym (length-map g.members.items member_state) i + alerts_counted groups i)
    ∙ sym (sum_by-cons (λ (h : GroupState). length h.members) (group_state g) (map group_state groups))

-- what holds of each group holds of the one at an index
pub at_index : (P : GroupState → Type 0) (groups : List Group) (i : ℕ) (g : Group) → All P (map group_state groups) → i < length groups → g ≡ get_or groups i g → P (group_state g)
at_index P groups i g all within is =
    let there : i < length (map group_state groups) = omega (arith, within, length-map groups group_state) in
    let at : get_or (map group_state groups) i (group_state g) ≡ group_state g = get_or-map group_state groups i g (group_state g) within ∙ ap group_state (sym is) in
    subst P at (all i (group_state g) there)
