use Rattle.std.proofs.Common.{◌∙◌}
use Rattle.am_board.proofs.lemmas.invariant.Calls.{due_at}
use Rattle.am_board.proofs.board.Board.next_due.Goals as goal

pub next_due_of-requires : goal.next_due_of-requires
next_due_of-requires c = c.self.invariant.marked

pub returns : goal.returns
returns c = c.next_due_of.ensures ∙ due_at c.self.inside c.self.invariant c.args.self.now c.self.view_is
