use Rattle.std.proofs.Common.{◌≡◌, ◌∙◌, Ok, Err, None, Some, if◌then◌else◌, sym, ap, subst, arith}
use Rattle.std.proofs.lemmas.Result.{err_from_is_err_and}
use Rattle.std.specs.VecDeque.{deque_len}
use Rattle.am_model.specs.look_back.Preview.{preview_on, reason_of}
use Rattle.am_board.specs.Beginning.{BeginsShown, IsPlan}
use Rattle.am_board.specs.Refinement.{state_of, group_state}
use Rattle.am_board.specs.declared.group.Group.{Group}
use Rattle.am_board.proofs.lemmas.begin.Causes.{ended, planned_err, planned_few, planned_none, planned_space, shown_taken, shown_with}
use Rattle.am_board.proofs.lemmas.begin.PlannedFlushes.{members-apart}
use Rattle.am_board.proofs.lemmas.invariant.GroupNames.{routed_at}
use Rattle.am_board.proofs.lemmas.invariant.Staying.{stays_itself}
use Rattle.am_board.proofs.begin.take_prepared.Goals as goal

pub plan-requires-clause-look : goal.plan-requires-clause-look
plan-requires-clause-look c =
    record {
      sources = c.requires.sources;
      few = c.requires.good.few;
      times = c.requires.times;
      time = omega (arith, c.requires.good.consistent.clock, c.requires.taking.chosen.time);
    }

pub plan-requires-clause-route : goal.plan-requires-clause-route
plan-requires-clause-route c =
    routed_at c.args.config.now.routes c.args.state.now.groups.items c.args.chosen.index c.at-group.result.now c.requires.good.routed c.requires.taking.chosen.index c.at-group.ensures

pub plan-requires-clause-apart : goal.plan-requires-clause-apart
plan-requires-clause-apart c =
    members-apart c.args.state.now.groups.items c.args.chosen.index c.at-group.result.now c.requires.good.consistent.members c.requires.taking.chosen.index c.at-group.ensures

pub begin_planned-requires-clause-none : goal.begin_planned-requires-clause-none
begin_planned-requires-clause-none c =
    let s = c.args.state.now in
    planned_none c.args.config.now c.args.chosen.call.id (deque_len s.flushes) (state_of s) c.args.chosen.t (group_state c.at-group.result.now) c.in_ok-planned.planned c.in_ok-planned.ensures.0

pub begin_planned-requires-clause-space : goal.begin_planned-requires-clause-space
begin_planned-requires-clause-space c =
    let s = c.args.state.now in
    planned_space c.args.config.now c.args.chosen.call.id (deque_len s.flushes) (state_of s) c.args.chosen.t (group_state c.at-group.result.now) c.in_ok-planned.planned c.in_ok-planned.ensures.0

pub begin_planned-requires-clause-few : goal.begin_planned-requires-clause-few
begin_planned-requires-clause-few c =
    let s = c.args.state.now in
    planned_few c.args.config.now c.args.chosen.call.id (deque_len s.flushes) (state_of s) c.args.chosen.t (group_state c.at-group.result.now) c.in_ok-planned.planned c.in_ok-planned.ensures.0 c.requires.good.few

pub returns : goal.returns
returns c =
    let config = c.args.config.now in
    let s = c.args.state.now in
    let st = state_of s in
    let chosen = c.args.chosen in
    let takes = c.requires.taking.chosen in
    let new = c.begin_planned.new.state in
    let g : c.at-group.result.now ≡ c.requires.taking.group = c.at-group.ensures ∙ takes.group c.at-group.result.now in
    let plan = subst (λ (x : Group). IsPlan config chosen.call.id (deque_len s.flushes) st chosen.t (group_state x) (Ok c.in_ok-planned.planned)) g c.in_ok-planned.ensures.0 in
    let begins = ended config chosen.call.id s chosen c.requires.taking.group takes c.requires.space c.in_ok-planned.planned plan new c.begin_planned.result
    (c.begin_planned.ensures config c.requires.taking.group c.requires.good takes plan) in
    let shown =
    c.in_ok-planned.ensures.1
    ∙ ap (λ (x : Group). if c.args.why then Some (preview_on config st chosen.t (reason_of config st chosen.t) (group_state x)) else None) g
    ∙ shown_taken config chosen.call.id s chosen c.requires.taking.group takes c.args.why in
    subst (BeginsShown config chosen.call c.args.why s new) (sym c.with_preview.ensures)
    (shown_with config chosen.call c.args.why s new c.begin_planned.result c.in_ok-planned.preview begins shown)

pub returns-in_err-planned : goal.returns-in_err-planned
returns-in_err-planned c =
    let config = c.args.config.now in
    let s = c.args.state.now in
    let chosen = c.args.chosen in
    let takes = c.requires.taking.chosen in
    let fault = c.in_err-planned.field-0.0 in
    let p = err_from_is_err_and c.from_residual.result c.from_residual.ensures.1 in
    let g : c.at-group.result.now ≡ c.requires.taking.group = c.at-group.ensures ∙ takes.group c.at-group.result.now in
    let plan = subst (λ (x : Group). IsPlan config chosen.call.id (deque_len s.flushes) (state_of s) chosen.t (group_state x) (Err fault)) g c.in_err-planned.ensures in
    rw (p.1, p.2) (planned_err config chosen.call.id s chosen c.requires.taking.group takes c.requires.space fault plan, stays_itself config s c.requires.good)
