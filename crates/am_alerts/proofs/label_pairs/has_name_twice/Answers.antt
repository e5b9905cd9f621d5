use Rattle.std.proofs.Common.{sym, ◌∙◌}
use Rattle.std.proofs.lemmas.List.{take_rest}
use Rattle.am_alerts.proofs.Pairs.{has_name_twice_in-found, has_name_twice_in-unvalued, has_name_twice_in-once}
use Rattle.am_alerts.proofs.label_pairs.has_name_twice.Goals as goal
use Rattle.am_alerts.proofs.label_pairs.has_name_twice.Goals.{else-has_value-via-then-has_value+else-has_name}
use Rattle.am_alerts.proofs.label_pairs.has_name_twice.Goals.{else-has_value-via-else-has_value}

pub returns-then-has_name : goal.returns-then-has_name
returns-then-has_name c =
    has_name_twice_in-found c.args.pairs.now c.loop-i.i _ c.loop-i-test.true c.loop-i.invariant
    (sym c.has_value.ensures ∙ c.if-has_value.true) (sym (rw take_rest at c.has_name.ensures) ∙ c.if-has_name.true)

pub loop-i-preserved : goal.loop-i-preserved
loop-i-preserved c =
    elim c.else-has_value.branch [
      | else-has_value-via-then-has_value+else-has_name w ↦
          has_name_twice_in-once c.args.pairs.now c.loop-i.i _ c.loop-i-test.true c.loop-i.invariant
          (sym c.has_value.ensures ∙ w.if-has_value.true) (sym (rw take_rest at w.has_name.ensures) ∙ w.if-has_name.false)
      | else-has_value-via-else-has_value w ↦
          has_name_twice_in-unvalued c.args.pairs.now c.loop-i.i _ c.loop-i-test.true c.loop-i.invariant
          (sym c.has_value.ensures ∙ w.if-has_value.false)
    ]
