use Rattle.std.proofs.Common.{Option, Ok, subst, vec_len, vec_capacity, ◌≡◌, ◌≤◌}
use Rattle.std.specs.Prelude.{IfSome}
use Rattle.std.specs.VecDeque.{deque_len}
use Rattle.am_board.specs.Beginning.{IsPlan}
use Rattle.am_board.specs.Refinement.{state_of, group_state}
use Rattle.am_board.specs.declared.plan.PlannedFlush.{PlannedFlush}
use Rattle.am_model.specs.declared.config.TheConstants.{MAX_INTEGRATIONS}
use Rattle.am_board.proofs.begin.begin_planned.Goals as goal

pub begin_flush-requires-clause-none : goal.begin_flush-requires-clause-none
begin_flush-requires-clause-none c = subst (λ (o : Option PlannedFlush). IfSome o (λ p. vec_len p.outcomes ≡ 0)) c.in-Some.is c.requires.none

pub begin_flush-requires-clause-space : goal.begin_flush-requires-clause-space
begin_flush-requires-clause-space c = subst (λ (o : Option PlannedFlush). IfSome o (λ p. vec_len p.notices ≤ vec_capacity p.outcomes)) c.in-Some.is c.requires.space

pub begin_flush-requires-clause-few : goal.begin_flush-requires-clause-few
begin_flush-requires-clause-few c = subst (λ (o : Option PlannedFlush). IfSome o (λ p. vec_len p.notices ≤ MAX_INTEGRATIONS)) c.in-Some.is c.requires.few

pub returns-in-None : goal.returns-in-None
returns-in-None c config g good takes plan =
    let s = c.args.state.now in
    c.begin_quiet.ensures config g good takes
    (subst (λ (o : Option PlannedFlush). IsPlan config c.args.chosen.call.id (deque_len s.flushes) (state_of s) c.args.chosen.t (group_state g) (Ok o)) c.in-None.is plan)

pub returns-in-Some : goal.returns-in-Some
returns-in-Some c config g good takes plan =
    let s = c.args.state.now in
    let opens = subst (λ (o : Option PlannedFlush). IsPlan config c.args.chosen.call.id (deque_len s.flushes) (state_of s) c.args.chosen.t (group_state g) (Ok o)) c.in-Some.is plan in
    c.begin_flush.ensures config g good takes opens.0 opens.2
