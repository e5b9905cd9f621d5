use Rattle.std.proofs.Common.{Bool, subst}
use Rattle.am_desk.specs.Glances.{IsShowable}
use Rattle.am_desk.specs.History.{MayBeCalls}
use Rattle.am_desk.proofs.keeper.Keeper.into_board.Goals as goal

pub returns-clause-calls : goal.returns-clause-calls
returns-clause-calls g c =
    let isk = c.self.invariant.1 in
    subst (λ (x : Bool). MayBeCalls x c.self.inside.board.history) c.self.invariant.2 (subst (IsShowable g.N.Name.terms) isk.log isk.shows).calls
