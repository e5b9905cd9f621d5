use Rattle.std.proofs.Common.{◌≡◌, ap, subst}
use Rattle.std.specs.Prelude.{IfOk}
use Rattle.am_model.specs.State.{State}
use Rattle.am_model.specs.Status.{label_status}
use Rattle.am_model.specs.declared.status.LabelStatus.{LabelStatus}
use Rattle.am_board.specs.History.{BoardData, state_at}
use Rattle.am_board.proofs.board.Board.status.Goals as goal

pub returns : goal.returns
returns c =
    let labels = c.args.labels.now in
    subst (λ (b : BoardData). IfOk c.status_of.result (λ status. status ≡ label_status b.config (state_at b) labels c.args.now)) c.self.view_is
    (subst (λ (given : LabelStatus). IfOk c.status_of.result (λ status. status ≡ given))
    (ap (λ (s : State). label_status c.self.inside.config s labels c.args.now) c.self.invariant.agrees.rest) c.status_of.ensures)
