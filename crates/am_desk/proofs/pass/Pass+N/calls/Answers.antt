use Rattle.std.proofs.Common.{Bool, false, subst}
use Rattle.am_desk.specs.History.{MayBeCalls}
use Rattle.am_desk.specs.Known.{Seen}
use Rattle.am_desk.proofs.pass.Pass+N.calls.Goals as goal

pub returns-clause-seen : goal.returns-clause-seen
returns-clause-seen g c =
    subst (λ (s : Seen). MayBeCalls false s.log) c.self.view_is
    (subst (λ (x : Bool). MayBeCalls x c.self.inside.seat.me.0.log) c.self.invariant.3 c.self.invariant.2.legal.calls)
