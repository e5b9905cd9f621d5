use Rattle.std.proofs.Common.{◌≡◌, ℕ, List, ◌++◌, ◌∷◌, [], length, map, not, ◌&&◌, arith, Some, None, sym, ap, ◌∙◌, subst, count_by, if◌then◌else◌}
use Rattle.std.specs.Prelude.{IsPermutation, All}
use Rattle.std.proofs.lemmas.List.Sorted.{IsPermutation-refl}
use Rattle.std.specs.VecDeque.{deque_len}
use Rattle.am_alerts.specs.AlertData.{AlertData, is_resolved}
use Rattle.am_mute.specs.Silence.{SilenceData, is_over}
use Rattle.am_nflog.specs.Log.{without_unused}
use Rattle.am_model.specs.declared.fault.Fault.TheVariants.{HistoryFull}
use Rattle.am_model.specs.declared.config.Config.{Config}
use Rattle.am_model.specs.declared.group.GroupName.{GroupName}
use Rattle.am_model.specs.declared.record.Call.TheVariants.{Forget}
use Rattle.am_model.specs.declared.record.Reply.TheVariants.{Forgotten}
use Rattle.am_model.specs.declared.views.RowView.{RowView}
use Rattle.am_model.specs.Forget.{is_idle}
use Rattle.am_model.specs.Lists.{without}
use Rattle.am_model.specs.Records.{entry}
use Rattle.am_model.specs.State.{State, GroupState, time, same_name}
use Rattle.am_board.specs.declared.flush.OpenFlush.{OpenFlush}
use Rattle.am_board.specs.declared.group.Group.{Group}
use Rattle.am_board.specs.Forgetting.{is_idle_but_for, AreGrouped}
use Rattle.am_board.specs.GroupNameCache.{AreKept}
use Rattle.am_board.specs.LogRows.{log_rows, row_under}
use Rattle.am_board.specs.Refinement.{state_of, group_state, IsPrepared}
use Rattle.am_board.proofs.lemmas.forget.Flushing.{prepared-forgotten}
use Rattle.am_board.proofs.lemmas.invariant.Staying.{not_full}
use Rattle.am_board.proofs.forget.forget_idle.Goals as goal
use Rattle.am_board.proofs.forget.forget_idle.Goals.{After-forget}

with_fewer : (s : State) (rows : List RowView) (t u : ℕ) (ks ls : List AlertData) (xs ys : List SilenceData) → t ≡ u → ks ≡ ls → xs ≡ ys
    → ◌≡◌ {A = State} (record s { clock = t; known = ks; silences = xs; rows = rows }) (record s { clock = u; known = ls; silences = ys; rows = rows })
with_fewer s rows t u ks ls xs ys e f g = λ i. record s { clock = e i; known = f i; silences = g i; rows = rows }

-- the log is left as it is said
left : (c : After-forget) → c.forget.new.self ≡ without_unused same_name (map (λ (f : OpenFlush). f.group) c.args.state.now.flushes.items) c.args.state.now.log
left c =
    let names = c.in_ok-flushing.ensures in
    c.forget.ensures.forgotten ∙ ap (λ (ns : List GroupName). without_unused same_name ns c.args.state.now.log) (c.as_slice-3.ensures.value ∙ names)

pub returns-clause-forgot : goal.returns-clause-forgot
returns-clause-forgot c =
    let old = c.args.state.now in
    let counted : deque_len old.flushes ≡ length old.flushes.items = omega arith in
    let full = not_full c.args.config.now old 1 counted (omega arith) in
    let t = c.time-t.result in
    let u = time (state_of old) c.args.now in
    let e : t ≡ u = c.time-t.ensures in
    let gs : List GroupState = map group_state old.groups.items in
    let sets = c.in_ok-grouped.grouped.keys in
    let grouped : AreGrouped sets gs = subst (λ (groups : List Group). AreGrouped sets (map group_state groups)) c.as_slice.ensures.value c.in_ok-grouped.ensures in
    let same : (a : AlertData) → is_idle_but_for sets t a ≡ is_idle gs u a = λ a i. is_resolved a (e i) && not (grouped a i) in
    let known : c.drop_idle-2.new.self.items ≡ without (is_idle gs u) old.known.items = c.drop_idle-2.ensures.items ∙ (λ i. without (λ a. same a i) old.known.items) in
    let alerts : c.drop_idle-2.result ≡ count_by (is_idle gs u) old.known.items = c.drop_idle-2.ensures.count ∙ (λ i. count_by (λ a. same a i) old.known.items) in
    let quiet : c.drop_over.new.self.items ≡ without (is_over u) old.silences.items = c.drop_over.ensures.items ∙ ap (λ m. without (is_over m) old.silences.items) e in
    let silences : c.drop_over.result ≡ count_by (is_over u) old.silences.items = c.drop_over.ensures.count ∙ ap (λ m. count_by (is_over m) old.silences.items) e in
    let rows : log_rows c.forget.new.self ≡ log_rows old.log = ap (map row_under) c.forget.ensures.rows in
    let log = left ((goal.at.returns-clause-forgot c).After-forget) in (
      ap (λ b. if b then Some HistoryFull else None) full,
      λ id. record {
        returned = λ i. Some (Forgotten (record { alerts = sym alerts i; silences = sym silences i }));
        state = record {
          rows = subst (λ l. IsPermutation l (log_rows old.log)) (sym rows) (IsPermutation-refl (log_rows old.log));
          rest = with_fewer (state_of old) (log_rows c.forget.new.self) t u _ _ _ _ e known quiet;
        };
        routed = c.requires.good.routed;
        prepared = subst (λ l. All (IsPrepared c.args.config.now l) old.flushes.items) (sym log) (prepared-forgotten c.args.config.now old.log old.flushes.items c.requires.good.prepared);
        marked = c.requires.good.marked;
        history = c.push_reserved.ensures.items ∙ ap (λ h. h ++ entry c.args.pass (Forget c.args.now) (Forgotten (record { alerts = c.drop_idle-2.result; silences = c.drop_over.result })) ∷ []) c.in_ok-reserve.ensures.items;
        records = omega arith;
        space = omega (arith, c.in_ok-reserve.ensures.ok, c.in_ok-reserve.ensures.len, c.push_reserved.ensures.len, c.push_reserved.ensures.capacity, c.len.ensures);
      },
    )

pub returns-clause-keys : goal.returns-clause-keys
returns-clause-keys c = left ((goal.at.returns-clause-keys c).After-forget)

pub returns-clause-kept : goal.returns-clause-kept
returns-clause-kept c =
    let config : Config = c.args.config.now in
    let sets = c.in_ok-grouped.grouped.keys in
    let new = c.drop_idle.new.self in
    let known = c.as_slice-2.ensures.value in
    let moved = c.drop_idle.ensures config (subst (λ (ks : List AlertData). AreKept config ks c.args.destinations.now) (sym known) c.requires.kept) in
    subst (λ (ks : List AlertData). AreKept config ks new) (sym c.drop_idle-2.ensures.items)
    (subst (λ (ks : List AlertData). AreKept config (without (is_idle_but_for sets c.time-t.result) ks) new) known moved)
