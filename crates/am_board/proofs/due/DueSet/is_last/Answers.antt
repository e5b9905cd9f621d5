use Rattle.std.proofs.Common.{Some, sym, ap, ◌∙◌}
use Rattle.am_board.specs.declared.due.DueKey.{DueKey}
use Rattle.am_board.proofs.lemmas.invariant.DueRings.{key_called}
use Rattle.am_board.proofs.due.DueSet.is_last.Goals as goal

pub returns-then-key-due : goal.returns-then-key-due
returns-then-key-due c same =
    let is = key_called c.in-Some.key.now c.args.name.now c.args.due c.if-key-due.true (sym c.eq.ensures ∙ same) in
    c.in-Some.ensures.last ∙ ap (λ (k : DueKey). Some k) is
