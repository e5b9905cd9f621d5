use Rattle.std.proofs.Common.{◌≡◌, ℕ, List, ◌++◌, ◌∷◌, [], length, arith, Some, None, sym, ap, ◌∙◌, subst, count_by, if◌then◌else◌}
use Rattle.std.specs.Prelude.{IsPermutation, All}
use Rattle.std.proofs.lemmas.List.Sorted.{IsPermutation-refl}
use Rattle.std.specs.VecDeque.{deque_len}
use Rattle.am_model.specs.declared.fault.Fault.TheVariants.{HistoryFull}
use Rattle.am_model.specs.declared.record.Call.TheVariants.{Maintain}
use Rattle.am_model.specs.declared.record.Reply.TheVariants.{Maintained}
use Rattle.am_model.specs.declared.views.RowView.{RowView}
use Rattle.am_model.specs.Records.{entry}
use Rattle.am_board.specs.Refinement.{state_of, IsPrepared}
use Rattle.am_board.specs.LogRows.{log_rows}
use Rattle.am_model.specs.Lists.{without}
use Rattle.am_model.specs.State.{State, GroupState, time}
use Rattle.am_model.specs.Maintenance.{has_expired}
use Rattle.am_board.proofs.lemmas.invariant.LogRows.{log_rows-collected, expired_count-rows}
use Rattle.am_board.proofs.lemmas.maintain.Maintenance.{prepared-collected}
use Rattle.am_board.proofs.lemmas.invariant.Staying.{not_full}
use Rattle.am_board.proofs.maintain.sweep.Goals as goal
use Rattle.am_board.specs.Marks.{is_marked, marks_of}
use Rattle.am_board.proofs.lemmas.invariant.Marks.{marked_without}
use Rattle.am_board.proofs.lemmas.maintain.Deserted.{deserted_closed}

with_groups : (s : State) (rows : List RowView) (t u : ℕ) (gs hs : List GroupState) → t ≡ u → gs ≡ hs → ◌≡◌ {A = State} (record s { clock = t; groups = gs; rows = rows }) (record s { clock = u; groups = hs; rows = rows })
with_groups s rows t u gs hs e f = λ i. record s { clock = e i; groups = f i; rows = rows }

pub returns : goal.returns
returns c =
    let old = c.args.state.now in
    let counted : deque_len old.flushes ≡ length old.flushes.items = omega arith in
    let full = not_full c.args.config.now old 1 counted (omega arith) in
    let t = c.time-t.result in
    let u = time (state_of old) c.args.now in
    let e : t ≡ u = c.time-t.ensures in
    let rows : log_rows c.collect.new.self ≡ without (has_expired u) (log_rows old.log) =
    ap log_rows c.collect.ensures.collected ∙ log_rows-collected t old.log ∙ ap (λ m. without (has_expired m) (log_rows old.log)) e in
    let gone : c.collect.result ≡ count_by (has_expired u) (log_rows old.log) =
    c.collect.ensures.count ∙ expired_count-rows t old.log ∙ ap (λ m. count_by (has_expired m) (log_rows old.log)) e in (
      ap (λ b. if b then Some HistoryFull else None) full,
      λ id. record {
        returned = λ i. Some (Maintained (record { groups = sym c.drop_empty.ensures.count i; entries = sym gone i }));
        state = record {
          rows = subst (λ l. IsPermutation l (without (has_expired u) (log_rows old.log))) (sym rows) (IsPermutation-refl (without (has_expired u) (log_rows old.log)));
          rest = with_groups (state_of old) (log_rows c.collect.new.self) t u _ _ e c.drop_empty.ensures.groups;
        };
        routed = c.drop_empty.ensures.routed c.args.config.now.routes c.requires.good.routed;
        prepared = subst (λ log. All (IsPrepared c.args.config.now log) old.flushes.items) (sym c.collect.ensures.collected) (prepared-collected c.args.config.now t old.log old.flushes.items c.requires.good.prepared);
        marked = λ name.
            ap (λ gs. is_marked (marks_of gs) name) c.drop_empty.ensures.kept
            ∙ (marked_without old.groups.items (deserted_closed c.args.config.now old c.requires.good) name ∙ c.requires.good.marked name);
        history = c.push_reserved.ensures.items ∙ ap (λ h. h ++ entry c.args.pass (Maintain c.args.now) (Maintained (record { groups = c.drop_empty.result; entries = c.collect.result })) ∷ []) c.in_ok-reserve.ensures.items;
        records = omega arith;
        space = omega (arith, c.in_ok-reserve.ensures.ok, c.in_ok-reserve.ensures.len, c.push_reserved.ensures.len, c.push_reserved.ensures.capacity, c.len.ensures);
      },
    )
