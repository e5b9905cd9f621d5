use Rattle.std.proofs.Common.{arith}
use Rattle.am_alerts.proofs.Pairs.{length-with_values}
use Rattle.am_alerts.proofs.label_pairs.check_set.Goals as goal

pub returns-then-count-gt-MAX_LABELS : goal.returns-then-count-gt-MAX_LABELS
returns-then-count-gt-MAX_LABELS c = grind (arith, length-with_values)

pub returns-then-has_name_twice : goal.returns-then-has_name_twice
returns-then-has_name_twice c = grind (arith, length-with_values)

pub returns-then-count-eq0 : goal.returns-then-count-eq0
returns-then-count-eq0 c = grind (arith, length-with_values)

pub returns : goal.returns
returns c = grind (arith, length-with_values)
