use Rattle.std.proofs.Common.{sym, ap, ◌∙◌, ◌+◌, arith, rules}
use Rattle.std.specs.Option.{option_map}
use Rattle.am_alerts.specs.Duration.{capped}
use Rattle.am_alerts.proofs.Durations.{time_units-distinct, value_of_counts-start, value_in-none, value_in-unnamed, value_in-part}
use Rattle.am_alerts.proofs.Durations.{IsDistinct-named, first_part-shorter, sum-end}
use Rattle.am_alerts.proofs.duration.sum_of_parts.Goals as goal

pub loop-units-init : goal.loop-units-init
loop-units-init c = record {
  small = omega arith;
  distinct = time_units-distinct;
  whole = value_of_counts-start c.args.text.now;
}

pub returns-in_err-part : goal.returns-in_err-part
returns-in_err-part c =
    let none = value_in-none c.loop-units.units.now c.loop-units.rest.now (sym c.is_empty.ensures ∙ c.loop-units-test.true)
    c.in_err-part.ensures in
    c.from_residual.ensures ∙ sym (c.loop-units.invariant.whole ∙ ap (option_map (λ v. capped (c.loop-units.sum + v))) none)

pub returns-in_err-unit : goal.returns-in_err-unit
returns-in_err-unit c =
    let none = value_in-unnamed c.loop-units.units.now c.loop-units.rest.now _ _ _ c.loop-units.invariant.distinct c.in_ok-part.ensures
    (sym c.in_err-unit.ensures) in
    c.from_residual-in_err-unit.ensures ∙ sym (c.loop-units.invariant.whole ∙ ap (option_map (λ v. capped (c.loop-units.sum + v))) none)

pub loop-units-smaller : goal.loop-units-smaller
loop-units-smaller c = first_part-shorter _ _ _ _ c.in_ok-part.ensures

pub loop-units-preserved : goal.loop-units-preserved
loop-units-preserved c =
    let named = sym c.in_ok-unit.ensures in
    record {
      small = omega arith;
      distinct = IsDistinct-named c.loop-units.units.now _ _ _ c.loop-units.invariant.distinct named;
      whole = c.loop-units.invariant.whole
          ∙ value_in-part c.loop-units.units.now c.loop-units.rest.now _ _ _ _ _ c.loop-units.sum _ c.loop-units.invariant.distinct
          c.in_ok-part.ensures named (search rules);
    }

pub returns : goal.returns
returns c = sym (c.loop-units.invariant.whole
    ∙ sum-end c.loop-units.units.now c.loop-units.rest.now c.loop-units.sum c.loop-units.invariant.small
    (sym c.is_empty.ensures ∙ c.loop-units-test.false))
