use Rattle.std.proofs.Common.{not, ap}
use Rattle.am_board.proofs.members.is_none_resolved.Goals as goal

pub returns : goal.returns
returns c = ap not c.is_any_resolved.ensures
