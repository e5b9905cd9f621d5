use Rattle.std.proofs.Common.{ap, ◌∙◌, ◌||◌}
use Rattle.am_board.specs.DueOrder.{has_key, key_at}
use Rattle.am_board.proofs.lemmas.invariant.DueKeys.{unlike_key, popped_is, popped_keeps}
use Rattle.am_board.proofs.lemmas.invariant.DueRings.{first_is, first_keeps}
use Rattle.am_board.proofs.due.DueSet.take_front.Goals as goal

pub returns-then-is_front-clause-key : goal.returns-then-is_front-clause-key
returns-then-is_front-clause-key c =
    first_is c.pop_front.result c.args.self.now.ring c.pop_front.new.self (key_at c.args.name.now c.args.due) (c.is_front.ensures c.if-is_front.true) c.pop_front.ensures

pub returns-then-is_front-clause-keeps : goal.returns-then-is_front-clause-keeps
returns-then-is_front-clause-keeps c key apart had whole =
    ap (λ b. b || (has_key c.args.self.now.tree.keys key || has_key c.args.self.now.heap key))
    (first_keeps c.pop_front.result c.args.self.now.ring c.pop_front.new.self (key_at c.args.name.now c.args.due) key
    (c.is_front.ensures c.if-is_front.true) c.pop_front.ensures (unlike_key key c.args.name.now c.args.due apart))
    ∙ had whole

pub returns-then-is_last-clause-key : goal.returns-then-is_last-clause-key
returns-then-is_last-clause-key c =
    popped_is c.pop_last.result c.args.self.now.tree.keys c.pop_last.new.self.keys (key_at c.args.name.now c.args.due)
    (c.is_last.ensures c.if-is_last.true) c.pop_last.ensures.removal

pub returns-then-is_last-clause-keeps : goal.returns-then-is_last-clause-keeps
returns-then-is_last-clause-keeps c key apart had whole =
    ap (λ b. has_key c.args.self.now.ring key || (b || has_key c.args.self.now.heap key))
    (popped_keeps c.pop_last.result c.args.self.now.tree.keys c.pop_last.new.self.keys (key_at c.args.name.now c.args.due) key
    (c.is_last.ensures c.if-is_last.true) c.pop_last.ensures.removal c.pop_last.ensures.unchanged
    (unlike_key key c.args.name.now c.args.due apart))
    ∙ had whole

pub returns-then-is_front-2-clause-keeps : goal.returns-then-is_front-2-clause-keeps
returns-then-is_front-2-clause-keeps c key apart had whole =
    ap (λ b. has_key c.args.self.now.ring key || (has_key c.args.self.now.tree.keys key || b))
    (c.pop.ensures.others (key_at c.args.name.now c.args.due) key (c.is_front-2.ensures c.if-is_front-2.true) (unlike_key key c.args.name.now c.args.due apart))
    ∙ had whole
