use Rattle.std.proofs.Common.{List, ◌||◌, true≢false, sym, ap, ◌∙◌}
use Rattle.am_board.specs.Due.{holds_key}
use Rattle.am_board.specs.DueOrder.{has_key}
use Rattle.am_board.specs.declared.due.DueKey.{DueKey}
use Rattle.am_board.specs.declared.due.DueSet.{DueSet}
use Rattle.am_board.proofs.lemmas.invariant.DueRings.{either_stays, in_first, pushed_has, pushed_keeps}
use Rattle.am_board.proofs.due.DueSet.push_back.Goals as goal
use Rattle.am_board.proofs.due.DueSet.push_back.Goals.{in-Ok, in-Err}

pub returns-clause-has : goal.returns-clause-has
returns-clause-has c whole =
    elim c.match-push.branch [
      | in-Ok w ↦
          ap (λ (s : DueSet). holds_key s c.args.key) w.self-is
          ∙ in_first (has_key c.push.new.self c.args.key) (has_key c.args.self.now.tree.keys c.args.key || has_key c.args.self.now.heap c.args.key)
          (ap (λ (ks : List DueKey). has_key ks c.args.key) w.in-Ok.ensures ∙ pushed_has c.args.self.now.ring c.args.key)
      | in-Err w ↦ absurd (true≢false (sym whole ∙ (ap (λ (s : DueSet). s.whole) w.self-is ∙ w.lose.ensures)))
    ]

pub returns-clause-keeps : goal.returns-clause-keeps
returns-clause-keeps c other had whole =
    elim c.match-push.branch [
      | in-Ok w ↦
          let was = sym (ap (λ (s : DueSet). s.whole) w.self-is) ∙ whole in
          let rest = has_key c.args.self.now.tree.keys other || has_key c.args.self.now.heap other in
          ap (λ (s : DueSet). holds_key s other) w.self-is
          ∙ either_stays (has_key c.args.self.now.ring other) rest (has_key c.push.new.self other) rest
          (λ h. ap (λ (ks : List DueKey). has_key ks other) w.in-Ok.ensures ∙ pushed_keeps c.args.self.now.ring c.args.key other h) (λ h. h) (had was)
      | in-Err w ↦ absurd (true≢false (sym whole ∙ (ap (λ (s : DueSet). s.whole) w.self-is ∙ w.lose.ensures)))
    ]
