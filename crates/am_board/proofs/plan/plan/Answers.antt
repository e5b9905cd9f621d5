use Rattle.am_board.proofs.plan.plan.Goals as goal

pub returns : goal.returns
returns c = (c.in_ok-planned.ensures, c.in_ok-found.ensures.preview)
