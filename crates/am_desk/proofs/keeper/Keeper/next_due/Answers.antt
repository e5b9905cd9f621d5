use Rattle.std.proofs.Common.{◌∙◌, ap}
use Rattle.am_board.specs.History.{BoardData}
use Rattle.am_model.specs.Begin.{next_due}
use Rattle.am_model.specs.Replay.{replay}
use Rattle.am_desk.specs.declared.word.Terms.{Terms}
use Rattle.am_desk.proofs.keeper.Keeper.next_due.Goals as goal

pub returns : goal.returns
returns g c =
    c.next_due.ensures
    ∙ ap (λ (t : Terms). next_due (replay t.config c.self.inside.board.history)) c.self.invariant.1.board
    ∙ ap (λ (b : BoardData). next_due (replay g.N.Name.terms.config b.history)) c.self.view_is
