use Rattle.std.proofs.Common.{◌≡◌, ◌∙◌, true, List, refl, sym, ap, subst}
use Rattle.std.specs.Prelude.{IsPermutation}
use Rattle.std.specs.List.{list_any, IsDistinct}
use Rattle.std.specs.Map.{keys_of}
use Rattle.am_alerts.specs.declared.labels.Label.{Label}
use Rattle.am_nflog.proofs.CallerLemmas.{is_known-keys, keys-with_row}
use Rattle.am_nflog.specs.Log.{Slots, key_eq, is_known, with_row, HasDistinctKeys}
use Rattle.am_nflog.specs.declared.key.LogKey.{LogKey}
use Rattle.am_nflog.specs.declared.row.LogRow.{LogRow}
use Rattle.am_model.specs.Finish.{log_with}
use Rattle.am_board.specs.LogRows.{row_under, log_rows}
use Rattle.am_model.specs.State.{same_name}
use Rattle.am_model.specs.declared.group.GroupName.{GroupName}
use Rattle.am_model.specs.declared.views.RowView.{RowView}
use Rattle.am_board.proofs.lemmas.invariant.LogRows.{with_row-rows}
use Rattle.am_board.proofs.finish.log_sets.Goals as goal

-- a row that is put leaves the keys as they were
same_keys : (log new : Slots GroupName (List Label)) (key : LogKey GroupName) (row : LogRow (List Label)) → new ≡ with_row same_name log key row → keys_of new ≡ keys_of log
same_keys log new key row is = ap keys_of is ∙ keys-with_row same_name log key row

put_keys : (log new : Slots GroupName (List Label)) (key : LogKey GroupName) (row : LogRow (List Label)) → new ≡ with_row same_name log key row → (q : LogKey GroupName) → is_known same_name new q ≡ is_known same_name log q
put_keys log new key row is q = is_known-keys same_name new q ∙ ap (list_any (key_eq same_name q)) (same_keys log new key row is) ∙ sym (is_known-keys same_name log q)

put_rows : (log new : Slots GroupName (List Label)) (key : LogKey GroupName) (row : LogRow (List Label)) → new ≡ with_row same_name log key row → HasDistinctKeys same_name new → is_known same_name log key ≡ true
    → (rows : List RowView) → IsPermutation (log_rows log) rows → IsPermutation (log_rows new) (log_with (row_under (key, row)) rows)
put_rows log new key row is distinct known rows moved =
    let before : HasDistinctKeys same_name log = subst (IsDistinct (key_eq same_name)) (same_keys log new key row is) distinct in
    subst (λ l. IsPermutation (log_rows l) (log_with (row_under (key, row)) rows)) (sym is) (with_row-rows same_name (λ a b. refl) log rows key row before known moved)

pub returns-clause-known : goal.returns-clause-known
returns-clause-known c = put_keys c.args.log.now c.put.new.self c.args.key.now c.into_row.result c.put.ensures.put

pub returns-clause-rows : goal.returns-clause-rows
returns-clause-rows c rows moved =
    subst (λ row. IsPermutation (log_rows c.put.new.self) (log_with (row_under (c.args.key.now, row)) rows)) (c.into_row.ensures c.requires.fits)
    (put_rows c.args.log.now c.put.new.self c.args.key.now c.into_row.result c.put.ensures.put c.put.ensures.distinct c.requires.known rows moved)
