use Rattle.std.proofs.Common.{ap}
use Rattle.am_board.specs.History.{BoardData}
use Rattle.am_board.proofs.lemmas.invariant.Staying.{unless_value}
use Rattle.am_bench.proofs.requests.board.Desk.open.Goals as goal

pub invariant_of-result : goal.invariant_of-result
invariant_of-result c = record { ours = ap (λ (b : BoardData). b.id) (unless_value _ _ _ c.in_ok-board.ensures) }
