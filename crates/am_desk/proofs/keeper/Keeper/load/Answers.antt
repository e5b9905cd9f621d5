use Rattle.std.proofs.Common.{◌≡◌, ℕ, List, None, Bool, true, length, refl, sym, ap, ◌∙◌, subst}
use Rattle.am_model.specs.Causes.{load_cause}
use Rattle.am_model.specs.Replay.{replay}
use Rattle.am_model.specs.Records.{entry}
use Rattle.am_model.specs.State.{time}
use Rattle.am_model.specs.declared.record.Call.TheVariants as call
use Rattle.am_model.specs.declared.record.Record.{Record}
use Rattle.am_model.specs.declared.record.Reply.TheVariants as reply
use Rattle.am_board.specs.Step.{IsLoadAnswer}
use Rattle.am_desk.specs.Calls.{kept}
use Rattle.am_desk.specs.Known.{Seen, seen_of, Observes}
use Rattle.am_desk.proofs.Calls.{exchanged_looks}
use Rattle.am_desk.proofs.Refusals.{AtBoard, at_terms, accepted, keeper_at, load_refused, recorded_keeper}
use Rattle.am_desk.proofs.keeper.Keeper.load.Goals as goal

pub settle-requires-clause-seat : goal.settle-requires-clause-seat
settle-requires-clause-seat g c = (c.self.invariant.0, recorded_keeper _ _ _ _ _ _ _ c.self.invariant.1 c.in-Ok.ensures.recorded)

pub returns-in-Ok-clause-done : goal.returns-in-Ok-clause-done
returns-in-Ok-clause-done g c =
    accepted g.K.Kind.takes g.N.Name.terms g.N.Name.plan.passes c.self.inside.board _ _ _ c.self.inside.seat.me.0 c.args.pass.now _
    (λ (x : AtBoard). load_cause x.config x.records (replay x.config x.history) (time (replay x.config x.history) c.args.now) c.args.row ≡ None)
    c.self.invariant.1
    c.in-Ok.ensures.recorded
    c.settle.ensures.pass
    c.in-Ok.ensures.cause
    (ap (λ (k : ℕ). entry k (call.Load c.args.now c.args.row) (reply.Loaded c.in-Ok.loaded)) (ap (λ (x : Seen). x.number) c.pass.view_is))

pub returns-in_default : goal.returns-in_default
returns-in_default g c =
    let top = g.N.Name.terms in
    let takes = g.K.Kind.takes in
    let b = c.self.inside.board in
    let k = c.self.inside.seat.me.0 in
    let isk = c.self.invariant.1 in
    let p = c.pass.inside in
    let p1 = c.exchange.new.pass.me.0 in
    let l = exchanged_looks takes top g.N.Name.plan.passes p.number p.calls b k p.seat.me.0 c.exchange.new.keeper.me.0 p1 c.pass.invariant.2 isk c.exchange.ensures.exchanged in
    let why = λ (x : AtBoard). load_cause x.config x.records (replay x.config x.history) (time (replay x.config x.history) c.args.now) c.args.row in
    let cause = subst (λ (x : AtBoard). IsLoadAnswer (why x) c.in-Err.fault) (keeper_at takes top g.N.Name.plan.passes b k isk) c.in-Err.ensures.cause in
    record {
      done = tt;
      refused = load_refused top c.args.pass.now (seen_of p.number p.calls p1.log p1.taken) (λ (n : ℕ) (h : List Record). why (at_terms top (kept takes n h) h)) b.history (length b.handed) c.in-Err.fault cause c.in_default.not-NoMemory
          (subst (λ (s : Seen). Observes top s (seen_of p.number p.calls p1.log p1.taken)) c.pass.view_is l.0, l.1, l.2);
    }
