use Rattle.std.proofs.Common.{◌≡◌, ℕ, List, ◌++◌, ◌∷◌, [], length, arith, Some, None, sym, ap, ◌∙◌, if◌then◌else◌}
use Rattle.std.specs.VecDeque.{deque_len}
use Rattle.std.proofs.lemmas.List.Sorted.{IsPermutation-refl}
use Rattle.am_model.specs.declared.fault.Fault.TheVariants.{HistoryFull}
use Rattle.am_model.specs.declared.record.Call.TheVariants.{RemoveEmptyGroups}
use Rattle.am_model.specs.declared.record.Reply.TheVariants.{EmptyGroupsRemoved}
use Rattle.am_model.specs.Records.{entry}
use Rattle.am_model.specs.State.{State, GroupState}
use Rattle.am_board.specs.LogRows.{log_rows}
use Rattle.am_board.specs.Marks.{is_marked, marks_of}
use Rattle.am_board.specs.Refinement.{state_of}
use Rattle.am_board.proofs.lemmas.invariant.Marks.{marked_without}
use Rattle.am_board.proofs.lemmas.invariant.Staying.{not_full}
use Rattle.am_board.proofs.lemmas.maintain.Deserted.{deserted_closed}
use Rattle.am_board.proofs.maintain.remove_empty.Goals as goal

with_groups : (s : State) (t u : ℕ) (gs hs : List GroupState) → t ≡ u → gs ≡ hs → ◌≡◌ {A = State} (record s { clock = t; groups = gs }) (record s { clock = u; groups = hs })
with_groups s t u gs hs e f = λ i. record s { clock = e i; groups = f i }

pub returns : goal.returns
returns c =
    let old = c.args.state.now in
    let counted : deque_len old.flushes ≡ length old.flushes.items = omega arith in
    let full = not_full c.args.config.now old 1 counted (omega arith) in (
      ap (λ b. if b then Some HistoryFull else None) full,
      λ id. record {
        returned = λ i. Some (EmptyGroupsRemoved (record { groups = sym c.drop_empty-groups.ensures.count i }));
        state = record {
          rows = IsPermutation-refl (log_rows old.log);
          rest = with_groups (state_of old) c.time-t.result _ _ _ c.time-t.ensures c.drop_empty-groups.ensures.groups;
        };
        routed = c.drop_empty-groups.ensures.routed c.args.config.now.routes c.requires.good.routed;
        prepared = c.requires.good.prepared;
        marked = λ name.
            ap (λ gs. is_marked (marks_of gs) name) c.drop_empty-groups.ensures.kept
            ∙ (marked_without old.groups.items (deserted_closed c.args.config.now old c.requires.good) name ∙ c.requires.good.marked name);
        history = c.push_reserved.ensures.items ∙ ap (λ h. h ++ entry c.args.pass (RemoveEmptyGroups c.args.now) (EmptyGroupsRemoved (record { groups = c.drop_empty-groups.result })) ∷ []) c.in_ok-reserve.ensures.items;
        records = omega arith;
        space = omega (arith, c.in_ok-reserve.ensures.ok, c.in_ok-reserve.ensures.len, c.push_reserved.ensures.len, c.push_reserved.ensures.capacity, c.len.ensures);
      },
    )
