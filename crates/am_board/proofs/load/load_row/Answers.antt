use Rattle.std.proofs.Common.{◌≡◌, ◌∙◌, ◌&&◌, ◌++◌, ◌∷◌, [], true, length, List, None, Some, sym, ap, subst, arith, if◌then◌else◌}
use Rattle.std.specs.Prelude.{IsPermutation}
use Rattle.std.specs.Option.{option_or}
use Rattle.std.specs.VecDeque.{deque_len}
use Rattle.am_model.specs.Causes.{row_cause}
use Rattle.am_model.specs.Finish.{log_with}
use Rattle.am_model.specs.Load.{is_put, loaded, may_load, rows_loading}
use Rattle.am_model.specs.Records.{entry}
use Rattle.am_model.specs.State.{time}
use Rattle.am_model.specs.declared.fault.LoadFault.TheVariants as load
use Rattle.am_model.specs.declared.record.Call.TheVariants.{Load}
use Rattle.am_model.specs.declared.record.Reply.TheVariants as replies
use Rattle.am_model.specs.declared.views.RowView.{RowView}
use Rattle.am_board.specs.LogRows.{log_rows}
use Rattle.am_board.specs.Refinement.{state_of}
use Rattle.am_board.proofs.lemmas.invariant.Staying.{no_fault, not_full}
use Rattle.am_board.proofs.lemmas.load.Allowed.{load-allowed}
use Rattle.am_board.proofs.lemmas.load.Merging.{prepared-knowing}
use Rattle.am_board.proofs.load.load_row.Goals as goal

pub returns : goal.returns
returns c =
    let config = c.args.config.now in
    let old = c.args.state.now in
    let row : RowView = c.args.row in
    let rows : List RowView = log_rows old.log in
    let u = time (state_of old) c.args.now in
    let e : c.time-t.result ≡ u = c.time-t.ensures in
    let counted : deque_len old.flushes ≡ length old.flushes.items = omega arith in
    let full = not_full config old 1 counted (omega arith) in
    let none : row_cause config u row ≡ None = ap (λ t. row_cause config t row) (sym e) ∙ no_fault (row_cause config c.time-t.result row) tt _ c.in_ok-check_row.ensures.cause in
    let may : may_load config u row ≡ true = load-allowed config u row none in
    let given : c.get.result.now ≡ row = c.get.ensures ∙ c.in_ok-row.ensures in
    let became : c.in_ok-loaded.loaded ≡ loaded rows u row = c.in_ok-loaded.ensures.loaded ∙ (λ i. loaded rows (e i) (given i)) in
    let left : (if is_put (loaded rows c.time-t.result c.get.result.now) then log_with c.get.result.now rows else rows) ≡ rows_loading config rows u row =
    (λ i. if is_put (loaded rows (e i) (given i)) then log_with (given i) rows else rows) ∙ sym (ap (λ b. if b && is_put (loaded rows u row) then log_with row rows else rows) may) in (
      (λ i. option_or (none i) (if full i then Some load.HistoryFull else None)),
      λ id. record {
        returned = ap (λ b. if b then Some (replies.Loaded (loaded rows u row)) else None) may ∙ ap (λ l. Some (replies.Loaded l)) (sym became);
        state = record {
          rows = subst (IsPermutation (log_rows c.put_row.new.log)) left c.in_ok-loaded.ensures.rows;
          rest = λ i. record (state_of old) { clock = e i; rows = log_rows c.put_row.new.log };
        };
        routed = c.requires.good.routed;
        prepared = prepared-knowing config old.log c.put_row.new.log old.flushes.items c.in_ok-loaded.ensures.known c.requires.good.prepared;
        marked = c.requires.good.marked;
        history = c.push_reserved.ensures.items
            ∙ ap (λ h. h ++ entry c.args.pass (Load c.args.now c.in_ok-row.row) (replies.Loaded c.in_ok-loaded.loaded) ∷ []) c.in_ok-reserve.ensures.items
            ∙ ap (λ r. old.history.items ++ entry c.args.pass (Load c.args.now r) (replies.Loaded c.in_ok-loaded.loaded) ∷ []) c.in_ok-row.ensures;
        records = omega arith;
        space = omega (arith, c.in_ok-reserve.ensures.ok, c.in_ok-reserve.ensures.len, c.push_reserved.ensures.len, c.push_reserved.ensures.capacity, c.len.ensures);
      },
    )
