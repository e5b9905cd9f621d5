use Rattle.std.proofs.Common.{◌≡◌, ◌++◌, List, length, ap, ◌∙◌, subst, arith}
use Rattle.am_board.specs.History.{BoardData}
use Rattle.am_model.specs.declared.record.Record.{Record}
use Rattle.am_desk.specs.History.{AreDeskCalls}
use Rattle.am_desk.specs.Laws.{EachRowWasDelivered}
use Rattle.am_desk.proofs.Delivered.{each_row}
use Rattle.am_desk.proofs.closed.Closed.history.Goals as goal

pub returns-clause-history : goal.returns-clause-history
returns-clause-history c =
    subst (λ (front : List Record). front ++ c.history.result.now ≡ c.self.inside.board.history) c.self.invariant.0 c.history.ensures.history
    ∙ ap (λ (b : BoardData). b.history) c.self.view_is

pub returns-clause-within : goal.returns-clause-within
returns-clause-within c =
    let shown = ap (λ (h : List Record). length h) (returns-clause-history c) in
    let most = ap (λ (b : BoardData). b.config.limits.history) c.self.view_is in
    omega (arith, c.history.ensures.within, shown, most)

pub returns-clause-calls : goal.returns-clause-calls
returns-clause-calls c = subst (λ (b : BoardData). AreDeskCalls b.history) c.self.view_is c.self.invariant.1

pub returns-clause-delivered : goal.returns-clause-delivered
returns-clause-delivered c =
    let b = c.self.inside.board in
    subst (λ (d : BoardData). EachRowWasDelivered d.config d.history) c.self.view_is (each_row b.config b.id b.history c.history.ensures.legal c.self.invariant.1)
