use Rattle.std.proofs.Common.{◌≡◌, ◌∙◌, ◌+◌, ◌<◌, ◌++◌, ◌∷◌, [], ℕ, Bool, List, length, map, get_or, count_by, refl, sym, ap, subst, arith}
use Rattle.std.specs.Prelude.{All, IfSome, IsPermutation, OnSome}
use Rattle.std.specs.List.{list_all, remove}
use Rattle.std.specs.VecDeque.{deque_len}
use Rattle.std.proofs.lemmas.List.{get_or_default}
use Rattle.am_retry.specs.declared.outcome.Outcome.{Outcome}
use Rattle.am_model.specs.Finish.{all_succeeded, has_succeeded, leaves_by}
use Rattle.am_model.specs.Records.{entry}
use Rattle.am_board.specs.Refinement.{IsNotified, notified_state_of, flush_state, group_state}
use Rattle.am_board.specs.LogRows.{log_rows}
use Rattle.am_model.specs.Lists.{changed_where, without}
use Rattle.am_board.specs.Finishing.{leaves_where, logged_of, rows_with}
use Rattle.am_model.specs.State.{MemberState, is_named, members_in}
use Rattle.am_board.specs.Step.{AppliesCall}
use Rattle.am_board.specs.declared.flush.OpenFlush.{OpenFlush}
use Rattle.am_model.specs.declared.record.Call.TheVariants.{Finish}
use Rattle.am_model.specs.declared.record.Reply.TheVariants as replies
use Rattle.am_board.specs.declared.state.State as kept
use Rattle.am_board.proofs.lemmas.finish.Finished.{finish-accepted}
use Rattle.am_board.proofs.lemmas.finish.Flushes.{open-prepared}
use Rattle.am_board.proofs.lemmas.finish.TakenOut.{all-kept}
use Rattle.am_board.proofs.finish.finish_flush.Goals as goal

pub returns-clause-accepted : goal.returns-clause-accepted
returns-clause-accepted c config good id o =
    let old = c.args.state.now in
    let new : kept.State = record {
      clock = c.time-t.result;
      inserts = old.inserts;
      known = old.known;
      groups = c.take_out-removed.new.groups;
      silences = old.silences;
      log = c.log_rest-successes.new.log;
      flushes = c.remove.new.self;
      next_number = old.next_number;
      history = c.push_reserved.new.self;
    } in
    let items = subst (λ r. OnSome r (c.remove.new.self.items ≡ remove old.flushes.items c.args.f)) c.unwrap-number.ensures c.remove.ensures.items in
    let less = subst (λ r. OnSome r (deque_len c.remove.new.self + 1 ≡ deque_len old.flushes)) c.unwrap-number.ensures c.remove.ensures.len in
    let is = subst (λ r. IfSome r (λ y. y ≡ get_or old.flushes.items c.args.f y)) c.unwrap-number.ensures c.remove.ensures.value in
    let within : c.args.f < length c.args.state.now.flushes.items = omega (arith, c.requires.index, c.args.state.now.flushes.ok.0) in
    let number : (get_or c.args.state.now.flushes.items c.args.f o).number ≡ c.unwrap-number.result.number =
    ap (λ (g : OpenFlush). g.number) (get_or_default c.args.state.now.flushes.items c.args.f o c.unwrap-number.result within ∙ sym is) in
    let all : c.log_rest-successes.result.all ≡ all_succeeded c.args.outcomes.items (flush_state c.unwrap-number.result) =
    c.log_rest-successes.ensures.all ∙ (ap (λ (outcomes : List (ℕ × Outcome)). list_all (λ a. has_succeeded outcomes (notified_state_of a)) c.unwrap-number.result.notified.items) c.as_slice.ensures.value
    ∙ sym (all-kept c.args.outcomes.items c.unwrap-number.result)) in
    let leave : leaves_where c.log_rest-successes.result.all c.as_slice-2.result.now ≡ leaves_by c.args.outcomes.items (flush_state c.unwrap-number.result) =
    ap (leaves_where c.log_rest-successes.result.all) c.as_slice-2.ensures.value ∙ ap (λ b. leaves_where b c.unwrap-number.result.leaving.items) all in
    let groups = c.take_out-removed.ensures.groups good.consistent.groups
    ∙ ap (λ (test : MemberState → Bool). changed_where (is_named c.unwrap-number.result.group) (λ g. record g { members = without test g.members }) (map group_state c.args.state.now.groups.items)) leave in
    let removed = c.take_out-removed.ensures.count ∙ ap (λ (test : MemberState → Bool). count_by test (members_in (map group_state c.args.state.now.groups.items) c.unwrap-number.result.group)) leave in
    let logged = subst (λ (outcomes : List (ℕ × Outcome)). c.log_rest-successes.result.logged ≡ length (logged_of outcomes c.unwrap-number.result.notified.items)) c.as_slice.ensures.value c.log_rest-successes.ensures.count in
    let notified : All (IsNotified old.log c.unwrap-number.result) c.unwrap-number.result.notified.items = (open-prepared config old c.args.f c.unwrap-number.result within is good).notified in
    let rows = subst (λ (outcomes : List (ℕ × Outcome)). IsPermutation (log_rows c.log_rest-successes.new.log) (rows_with c.unwrap-number.result c.time-t.result outcomes c.unwrap-number.result.notified.items (log_rows c.args.state.now.log)))
    c.as_slice.ensures.value (c.log_rest-successes.ensures.rows c.unwrap-number.result refl notified) in
    let history = subst (λ (outcomes : List (ℕ × Outcome)). c.push_reserved.new.self.items ≡ c.args.state.now.history.items ++ entry c.args.pass (Finish c.args.now c.unwrap-number.result.number outcomes) (replies.Finished (record { logged = c.log_rest-successes.result.logged; removed = c.take_out-removed.result })) ∷ [])
    c.from.ensures c.push_reserved.ensures.items in
    subst (λ n. AppliesCall config id (entry c.args.pass (Finish c.args.now n c.args.outcomes.items) (replies.Finished (record { logged = c.log_rest-successes.result.logged; removed = c.take_out-removed.result }))) old new) (sym number)
    (finish-accepted config id old new c.args.f c.unwrap-number.result within is good c.args.pass c.args.now c.args.outcomes.items (record { logged = c.log_rest-successes.result.logged; removed = c.take_out-removed.result })
    (record {
      clock = c.time-t.ensures;
      inserts = refl;
      known = refl;
      names = c.take_out-removed.ensures.names;
      marks = c.take_out-removed.ensures.marks good.consistent.groups;
      groups = groups;
      removed = removed;
      silences = refl;
      keys = c.log_rest-successes.ensures.known;
      logged = logged;
      rows = rows;
      flushes = items;
      less = less;
      next_number = refl;
      history = history;
      records = c.push_reserved.ensures.len;
      space = c.push_reserved.ensures.capacity;
    }))
