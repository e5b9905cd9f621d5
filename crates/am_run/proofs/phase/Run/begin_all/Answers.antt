use Rattle.std.proofs.Common.{◌≡◌, ◌∙◌, Bool, true, false, refl, subst, sym, rules}
use Rattle.am_run.specs.Steps.{Begins}
use Rattle.am_run.specs.PhaseFaults.{HasNoFault}
use Rattle.am_run.proofs.lemmas.phases.Steps.{begins_more, begins_start}
use Rattle.am_run.proofs.lemmas.phases.Stops.{begins_until}
use Rattle.am_run.proofs.phase.Run.begin_all.Goals as goal

pub loop-init : goal.loop-init
loop-init g c = record {
  preserves = (refl, refl, λ none. none);
  begins = λ none. begins_start g.N.Name.terms c.args.at c.args.self.now.main c.args.tickets.now.items;
  well = λ none. none;
}

pub loop-preserved : goal.loop-preserved
loop-preserved g c =
    let i = c.loop.invariant in
    let k = c.begin.ensures.preserves in
    let ts = c.args.tickets.now.items in
    let us = c.loop.tickets.items in
    let vs = c.begin.new.tickets.items in
    let more : c.begin.result ≡ true = search rules in
    record {
      preserves = (k.0 ∙ i.preserves.0, k.1 ∙ i.preserves.1, λ none. i.preserves.2 (k.2 none));
      begins = λ none.
          begins_more g.N.Name.terms true c.args.at c.args.self.now.main c.loop.self.main c.begin.new.self.main ts us vs (i.begins (k.2 none))
          (subst (λ (b : Bool). Begins g.N.Name.terms true b c.args.at c.loop.self.main c.begin.new.self.main us vs) more (c.begin.ensures.begins none));
      well = λ none. subst HasNoFault (sym (c.begin.ensures.well more)) (i.well none);
    }

pub returns-clause-begins : goal.returns-clause-begins
returns-clause-begins g c none =
    let k = c.begin.ensures.preserves in
    let ts = c.args.tickets.now.items in
    let us = c.loop.tickets.items in
    let vs = c.begin.new.tickets.items in
    let end : c.begin.result ≡ false = search rules in
    begins_more g.N.Name.terms false c.args.at c.args.self.now.main c.loop.self.main c.begin.new.self.main ts us vs (c.loop.invariant.begins (k.2 none))
    (subst (λ (b : Bool). Begins g.N.Name.terms true b c.args.at c.loop.self.main c.begin.new.self.main us vs) end (c.begin.ensures.begins none))

pub returns-clause-full : goal.returns-clause-full
returns-clause-full g c none full =
    let i = c.loop.invariant in
    begins_until g.N.Name.terms c.args.at c.args.self.now.main c.loop.self.main c.begin.new.self.main c.args.tickets.now.items c.loop.tickets.items (i.begins (i.well none)) (c.begin.ensures.full (i.well none) full)
