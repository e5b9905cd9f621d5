use Rattle.std.proofs.Common.{◌≡◌, ◌++◌, List, subst}
use Rattle.am_model.specs.declared.record.Record.{Record}
use Rattle.am_simulation.proofs.play.Played.history.Goals as goal

pub returns-clause-history : goal.returns-clause-history
returns-clause-history c =
    subst (λ (front : List Record). front ++ c.history.result.now ≡ c.args.self.now.board.history) c.args.self.now.whole c.history.ensures.history
