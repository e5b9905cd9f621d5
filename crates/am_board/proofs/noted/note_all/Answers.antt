use Rattle.std.proofs.Common.{◌∙◌}
use Rattle.am_board.proofs.noted.note_all.Goals as goal

pub returns-then-is_err : goal.returns-then-is_err
returns-then-is_err c = c.note.ensures ∙ c.loop-member.invariant
