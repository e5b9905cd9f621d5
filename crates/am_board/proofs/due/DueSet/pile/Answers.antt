use Rattle.std.proofs.Common.{◌||◌, true≢false, sym, ap, ◌∙◌}
use Rattle.am_board.specs.Due.{holds_key}
use Rattle.am_board.specs.DueOrder.{has_key}
use Rattle.am_board.specs.declared.due.DueSet.{DueSet}
use Rattle.am_board.proofs.lemmas.invariant.DueRings.{either_stays, in_second}
use Rattle.am_board.proofs.due.DueSet.pile.Goals as goal
use Rattle.am_board.proofs.due.DueSet.pile.Goals.{in-Ok, in-Err}

pub returns-clause-has : goal.returns-clause-has
returns-clause-has c whole =
    elim c.match-push.branch [
      | in-Ok w ↦
          let tree = has_key c.args.self.now.tree.keys c.args.key in
          let heap = has_key c.push.new.self c.args.key in
          ap (λ (s : DueSet). holds_key s c.args.key) w.self-is
          ∙ in_second (has_key c.args.self.now.ring c.args.key) (tree || heap) (in_second tree heap w.in-Ok.ensures.has)
      | in-Err w ↦ absurd (true≢false (sym whole ∙ (ap (λ (s : DueSet). s.whole) w.self-is ∙ w.lose.ensures)))
    ]

pub returns-clause-keeps : goal.returns-clause-keeps
returns-clause-keeps c other had whole =
    elim c.match-push.branch [
      | in-Ok w ↦
          let was = sym (ap (λ (s : DueSet). s.whole) w.self-is) ∙ whole in
          let ring = has_key c.args.self.now.ring other in
          let tree = has_key c.args.self.now.tree.keys other in
          let heap = has_key c.args.self.now.heap other in
          let after = has_key c.push.new.self other in
          ap (λ (s : DueSet). holds_key s other) w.self-is
          ∙ either_stays ring (tree || heap) ring (tree || after) (λ h. h)
          (either_stays tree heap tree after (λ h. h) (w.in-Ok.ensures.keeps other)) (had was)
      | in-Err w ↦ absurd (true≢false (sym whole ∙ (ap (λ (s : DueSet). s.whole) w.self-is ∙ w.lose.ensures)))
    ]
