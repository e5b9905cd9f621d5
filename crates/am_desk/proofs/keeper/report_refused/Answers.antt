use Rattle.std.proofs.Common.{length, ◌∙◌, subst}
use Rattle.am_desk.specs.Known.{Seen, seen_of, Observes}
use Rattle.am_desk.proofs.Calls.{exchanged_looks}
use Rattle.am_desk.proofs.Refusals.{learns, keeper_still}
use Rattle.am_desk.proofs.keeper.report_refused.Goals as goal

pub returns-in_default : goal.returns-in_default
returns-in_default g c =
    let top = g.N.Name.terms in
    let takes = g.K.Kind.takes in
    let n = g.N.Name.plan.passes in
    let k = c.args.seat.now.me.0 in
    let p = c.pass.inside in
    let b = c.args.board.now in
    let p1 = c.exchange.new.pass.me.0 in
    let x = c.exchange.ensures.exchanged in
    let l = exchanged_looks takes top n p.number p.calls b k p.seat.me.0 c.exchange.new.keeper.me.0 p1 c.pass.invariant.2 c.requires.seat.1 x in
    record {
      seat = (c.exchange.ensures.cells.0 ∙ c.requires.seat.0, keeper_still takes top n b k p.seat.me.0 c.exchange.new.keeper.me.0 p1 c.requires.seat.1 x);
      pass = learns top c.args.fault b.history (length b.handed) c.args.pass.now (seen_of p.number p.calls p1.log p1.taken) c.in_default.not-NoMemory
          (subst (λ (s : Seen). Observes top s (seen_of p.number p.calls p1.log p1.taken)) c.pass.view_is l.0, l.1, l.2);
    }
