use Rattle.std.proofs.Common.{◌+◌, [], Option, ap, arith, length, subst, sym}
use Rattle.am_session.specs.declared.session.Session.{Session}
use Rattle.am_dispatch.specs.declared.fault.ServeFault.{ServeFault}
use Rattle.am_dispatch.specs.Serve.{Serving, Stops}
use Rattle.am_dispatch.specs.Trail.{Since}
use Rattle.am_dispatch.proofs.Serving.{known_fault, last_stops, prompt_read, read_fails, reads_stop, served_all, served_none, serving_read}
use Rattle.am_dispatch.proofs.serve.serve.Goals as goal

pub loop-init : goal.loop-init
loop-init g c =
    let trail = g.P.Peer.trail c.args.peer.now in
    record {
      serving = subst (λ (s : Option Session). Serving trail trail 0 s c.new-line.result []) (sym c.new-service.ensures.session)
          (served_none trail c.new-line.result c.new-line.ensures.read c.new-line.ensures.text);
      short = omega (arith, c.new-line.result.text.ok.0, ap length c.new-line.ensures.text);
    }

pub returns-in_default-clause-prompt : goal.returns-in_default-clause-prompt
returns-in_default-clause-prompt g c = prompt_read _ _ _ _ _ _ c.loop.invariant.serving c.read.ensures.happens

pub returns-in_default-clause-stopped : goal.returns-in_default-clause-stopped
returns-in_default-clause-stopped g c =
    read_fails c.read.result c.in_default.field-0 _ _ _ _ _ _ _ c.loop.invariant.serving c.read.ensures.happens c.in_default.is

pub loop-preserved : goal.loop-preserved
loop-preserved g c =
    record {
      serving = c.in_ok-answer_lines.ensures.serving (g.P.Peer.trail c.args.peer.now) (c.loop.counter + 1)
          (serving_read c.read.result c.in-Ok.count _ _ _ _ _ _ _ c.loop.invariant.serving c.read.ensures.happens c.in-Ok.is c.if-count-gt0.true c.in-Ok.ensures.within);
      short = c.answer_lines.ensures.short;
    }

pub returns-in_err-answer_lines-clause-prompt : goal.returns-in_err-answer_lines-clause-prompt
returns-in_err-answer_lines-clause-prompt g c =
    (c.in_err-answer_lines.ensures.stopped (g.P.Peer.trail c.args.peer.now) (c.loop.counter + 1)
    (serving_read c.read.result c.in-Ok.count _ _ _ _ _ _ _ c.loop.invariant.serving c.read.ensures.happens c.in-Ok.is c.if-count-gt0.true c.in-Ok.ensures.within)).1

pub returns-in_err-answer_lines-clause-stopped : goal.returns-in_err-answer_lines-clause-stopped
returns-in_err-answer_lines-clause-stopped g c =
    let first = g.P.Peer.trail c.args.peer.now in
    let stopped = c.in_err-answer_lines.ensures.stopped first (c.loop.counter + 1)
    (serving_read c.read.result c.in-Ok.count _ _ _ _ _ _ _ c.loop.invariant.serving c.read.ensures.happens c.in-Ok.is c.if-count-gt0.true c.in-Ok.ensures.within) in
    known_fault _ _ c.in_err-answer_lines.field-0.0 c.from_residual.ensures.1
    (subst (λ (f : ServeFault). Since first (g.P.Peer.trail c.answer_lines.new.peer) (Stops f)) (sym stopped.0) stopped.2)

pub returns-then-is_end-clause-prompt : goal.returns-then-is_end-clause-prompt
returns-then-is_end-clause-prompt g c = prompt_read _ _ _ _ _ _ c.loop.invariant.serving c.read.ensures.happens

pub returns-then-is_end-clause-served : goal.returns-then-is_end-clause-served
returns-then-is_end-clause-served g c =
    served_all c.read.result c.in-Ok.count _ _ _ _ _ _ _ c.loop.invariant.serving c.read.ensures.happens c.in-Ok.is (omega (arith, c.if-count-gt0.false))
    (c.is_end.ensures.0 c.if-is_end.true)

pub returns-else-is_end-clause-prompt : goal.returns-else-is_end-clause-prompt
returns-else-is_end-clause-prompt g c =
    (last_stops c.answer.result c.read.result c.in-Ok.count _ _ _ _ _ _ _ _ _ c.loop.invariant.serving c.read.ensures.happens c.in-Ok.is (omega (arith, c.if-count-gt0.false))
    (λ e. absurd (let ends = c.is_end.ensures.1 e in cc)) c.answer.ensures.answered c.answer.ensures.broken).0

pub returns-else-is_end-clause-served : goal.returns-else-is_end-clause-served
returns-else-is_end-clause-served g c =
    (last_stops c.answer.result c.read.result c.in-Ok.count _ _ _ _ _ _ _ _ _ c.loop.invariant.serving c.read.ensures.happens c.in-Ok.is (omega (arith, c.if-count-gt0.false))
    (λ e. absurd (let ends = c.is_end.ensures.1 e in cc)) c.answer.ensures.answered c.answer.ensures.broken).1

pub returns-else-is_end-clause-stopped : goal.returns-else-is_end-clause-stopped
returns-else-is_end-clause-stopped g c =
    (last_stops c.answer.result c.read.result c.in-Ok.count _ _ _ _ _ _ _ _ _ c.loop.invariant.serving c.read.ensures.happens c.in-Ok.is (omega (arith, c.if-count-gt0.false))
    (λ e. absurd (let ends = c.is_end.ensures.1 e in cc)) c.answer.ensures.answered c.answer.ensures.broken).2

pub returns-clause-stopped : goal.returns-clause-stopped
returns-clause-stopped g c = (reads_stop _ _ _ _ _ c.loop.invariant.serving (omega (arith, c.loop-test.false))).1
