use Rattle.std.proofs.Common.{◌∷◌, [], length, drop, ap, ◌∙◌, arith, length-append}
use Rattle.am_desk.proofs.Calls.{last_is, last_kept}
use Rattle.am_desk.proofs.keeper.last_of.Goals as goal

pub returns-clause-last : goal.returns-clause-last
returns-clause-last c front r e le =
    let kept = c.history-history.result.now in
    c.index-history-history.is ∙ last_is kept (drop (length c.args.board.now.handed) front) r _ (last_kept c.args.board.now.handed kept front r (c.history-history.ensures.history ∙ e) le)

pub overflow_sub-result : goal.overflow_sub-result
overflow_sub-result c =
    let some = c.requires in
    let kept = c.history-history.result.now in
    let front = some.0 in
    let e = last_kept c.args.board.now.handed kept front some.1 (c.history-history.ensures.history ∙ some.2) some.3 in
    omega (arith, ap length e, length-append (drop (length c.args.board.now.handed) front) (some.1 ∷ []))
