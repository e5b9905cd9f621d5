use Rattle.std.proofs.Common.{◌≡◌, ap, subst, ◌∙◌}
use Rattle.std.specs.List.{list_any}
use Rattle.am_model.specs.Maintenance.{has_no_alerts}
use Rattle.am_model.specs.State.{State}
use Rattle.am_board.specs.History.{BoardData, state_at}
use Rattle.am_board.proofs.board.Board.has_empty_groups.Goals as goal

pub returns : goal.returns
returns c =
    subst (λ (b : BoardData). c.has_empty.result ≡ list_any has_no_alerts (state_at b).groups) c.self.view_is
    (c.has_empty.ensures ∙ ap (λ (s : State). list_any has_no_alerts s.groups) c.self.invariant.agrees.rest)
