-- Each row that a board shows is found again as it is under the same configuration, and what is found again of it can be loaded.
use Rattle.std.proofs.Common.{◌≡◌, true, ◌&&◌, nat_le, arith}
use Rattle.std.specs.Prelude.{All}
use Rattle.std.specs.List.{Contains}
use Rattle.std.proofs.lemmas.Bool.{and_parts}
use Rattle.std.proofs.lemmas.List.Sorted.{All-permutation}
use Rattle.am_model.specs.declared.views.RowView.{RowView}
use Rattle.am_model.specs.Lists.{in_order}
use Rattle.am_model.specs.Load.{has_integration, is_ordered, may_load}
use Rattle.am_model.specs.Rekey.{Reload, rekeyed, RekeyedDispatcherChangesMayBeLoaded, RestartsFindShownRows}
use Rattle.am_model.specs.Replay.{replay}
use Rattle.am_model.specs.State.{time}
use Rattle.am_model.specs.Views.{row_cmp}
use Rattle.am_model.proofs.configuration.Rekeyed.{rekeyed_rows_may_be_loaded, restarts_find_rows}
use Rattle.am_model.proofs.legal.Consistent.{consistent_replay}
use Rattle.am_model.proofs.legal.LoadableRows.{time-from, rows-load}
use Rattle.am_model.proofs.lists.Distinct.{all_from, all-weaker}
use Rattle.am_model.proofs.lists.Words.{in_order-moves}

pub rekeyed_dispatcher_changes_may_be_loaded : RekeyedDispatcherChangesMayBeLoaded
rekeyed_dispatcher_changes_may_be_loaded reload history s now later =
    let rows = (replay reload.old history).rows in
    let t = time s now in
    let from = time-from s now (replay reload.old history).clock (consistent_replay reload.old history).clock later in
    let P : RowView → Type 0 = λ row. All (λ found. may_load reload.new t found ≡ true) (rekeyed reload row) in
    All-permutation P rows (in_order row_cmp rows) (in_order-moves row_cmp rows)
    (all_from P rows
    (all-weaker (λ row. may_load reload.old t row ≡ true) P (λ row may. rekeyed_rows_may_be_loaded reload t row may) rows (rows-load reload.old history t from)))

pub restarts_find_shown_rows : RestartsFindShownRows
restarts_find_shown_rows config history =
    let s = replay config history in
    let same : Reload = record { old = config; new = config } in
    let P : RowView → Type 0 = λ row. Contains (rekeyed same row) row in
    All-permutation P s.rows (in_order row_cmp s.rows) (in_order-moves row_cmp s.rows)
    (all_from P s.rows
    (all-weaker (λ row. may_load config s.clock row ≡ true) P
    (λ row may.
    let fit = (and_parts (has_integration config row && is_ordered row) (nat_le row.time s.clock) may).0 in
    restarts_find_rows config row (and_parts (has_integration config row) (is_ordered row) fit).0)
    s.rows (rows-load config history s.clock (omega arith))))
