use Rattle.std.proofs.Common.{◌∙◌, refl, arith}
use Rattle.am_desk.proofs.Prefixes.{prefix_trans}
use Rattle.am_run.proofs.lemmas.phases.Noting.{noted_ticket}
use Rattle.am_run.proofs.phase.Run.note_all.Goals as goal

pub loop-own-preserved : goal.loop-own-preserved
loop-own-preserved g c =
    let i = c.loop-own.invariant in
    let k = c.settle.ensures.preserves in
    let ts = c.args.tickets.now in
    let own = c.own-item.result in
    record {
      preserves = (k.0 ∙ i.preserves.0, k.1 ∙ i.preserves.1, λ none. i.preserves.2 (k.2 none));
      continues = (prefix_trans _ _ _ i.continues.0 c.settle.ensures.continues.0, λ full. i.continues.1 (c.settle.ensures.continues.1 full));
      noted = λ none.
          noted_ticket g.N.Name.terms c.args.at c.args.reports.now ts c.loop-own.own-index _ own c.args.self.now.main c.loop-own.self.main c.settle.new.self.main
          refl (omega (arith, c.loop-own-test.true)) c.own-item.is (i.noted (k.2 none)) (c.settle.ensures.noted none);
    }
