use Rattle.std.proofs.Common.{sym, ◌∙◌}
use Rattle.am_board.proofs.lemmas.unsilenced.Muting.{none-silence}
use Rattle.am_board.proofs.walk.is_unsilenced.Goals as goal

pub returns-then-len-eq0 : goal.returns-then-len-eq0
returns-then-len-eq0 c returned = none-silence c.args.labels.now c.args.t c.args.silences.now.items (sym c.len.ensures ∙ c.if-len-eq0.true)
