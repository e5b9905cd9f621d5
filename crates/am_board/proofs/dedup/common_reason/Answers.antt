use Rattle.std.proofs.Common.{sym, ◌∙◌}
use Rattle.am_board.specs.Beginning.{copies_of}
use Rattle.am_board.proofs.lemmas.begin.Reasons.{common-left}
use Rattle.am_board.proofs.dedup.common_reason.Goals as goal

pub returns-then-is_empty : goal.returns-then-is_empty
returns-then-is_empty c t = common-left c.args.muted_until (copies_of t c.args.unmuted.now) _ c.in_default.is (sym c.if-is_empty.true ∙ c.is_empty.ensures t)

pub returns-else-is_empty : goal.returns-else-is_empty
returns-else-is_empty c t = common-left c.args.muted_until (copies_of t c.args.unmuted.now) _ c.in_default.is (sym c.if-is_empty.false ∙ c.is_empty.ensures t)
