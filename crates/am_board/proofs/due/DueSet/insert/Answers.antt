use Rattle.std.proofs.Common.{◌||◌, true≢false, sym, ap, ◌∙◌}
use Rattle.std.specs.Ordering.{is_eq}
use Rattle.am_board.specs.Due.{holds_key}
use Rattle.am_board.specs.DueOrder.{has_key, key_cmp}
use Rattle.am_board.specs.declared.due.DueSet.{DueSet}
use Rattle.am_board.proofs.lemmas.invariant.DueKeys.{had_or}
use Rattle.am_board.proofs.lemmas.invariant.DueRings.{either_stays}
use Rattle.am_board.proofs.due.DueSet.insert.Goals as goal
use Rattle.am_board.proofs.due.DueSet.insert.Goals.{in-Ok, in-Err}

pub returns-clause-keeps : goal.returns-clause-keeps
returns-clause-keeps c other had whole =
    elim c.match-insert.branch [
      | in-Ok w ↦
          let was = sym (ap (λ (s : DueSet). s.whole) w.self-is) ∙ whole in
          let ring = has_key c.args.self.now.ring other in
          let tree = has_key c.args.self.now.tree.keys other in
          let after = has_key c.insert.new.self.keys other in
          let heap = has_key c.args.self.now.heap other in
          ap (λ (s : DueSet). holds_key s other) w.self-is
          ∙ either_stays ring (tree || heap) ring (after || heap) (λ h. h)
          (either_stays tree heap after heap (λ h. w.in-Ok.ensures.updates.0 other ∙ had_or (is_eq (key_cmp c.args.key other)) tree h) (λ h. h)) (had was)
      | in-Err w ↦ absurd (true≢false (sym whole ∙ (ap (λ (s : DueSet). s.whole) w.self-is ∙ w.lose.ensures)))
    ]
