use Rattle.std.proofs.Common.{◌||◌, ap, ◌∙◌}
use Rattle.std.specs.Ordering.{is_eq}
use Rattle.am_board.specs.DueOrder.{has_key, key_at, key_cmp}
use Rattle.am_board.proofs.lemmas.invariant.DueKeys.{other_key}
use Rattle.am_board.proofs.due.DueSet.take.Goals as goal

pub returns-clause-keeps : goal.returns-clause-keeps
returns-clause-keeps c key apart had whole =
    let other = ap (λ n. is_eq (key_cmp (key_at n c.args.due) key)) c.in-Ok.ensures ∙ other_key key c.args.name.now c.args.due apart in
    ap (λ b. has_key c.take_front.new.self.ring key || (b || has_key c.take_front.new.self.heap key)) (c.remove.ensures.updates.2 key other)
    ∙ c.take_front.ensures.keeps key apart had whole
