use Rattle.std.proofs.Common.{inr, refl}
use Rattle.am_board.proofs.lemmas.invariant.Staying.{unless_value}
use Rattle.am_session.proofs.Leaving.{faulty}
use Rattle.am_session.proofs.session.calls.open_board.Goals as goal

pub returns-in-Ok-clause-board : goal.returns-in-Ok-clause-board
returns-in-Ok-clause-board c = unless_value _ _ _ c.in-Ok.ensures

pub returns-in-Err-BadConfig-clause-refused : goal.returns-in-Err-BadConfig-clause-refused
returns-in-Err-BadConfig-clause-refused c = inr (faulty _ _ _ c.in-Err-BadConfig.ensures, (refl, refl))
