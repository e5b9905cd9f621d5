use Rattle.std.proofs.Common.{◌≡◌, drop}
use Rattle.am_alerts.proofs.Pairs.{has_name_twice_in}
use Rattle.am_alerts.proofs.label_pairs.has_name_twice.Given as goal

-- the pairs from here on say whether a name is twice
abbrev pub invariant-loop-i : goal.invariant-loop-i
invariant-loop-i l = has_name_twice_in (drop l.i l.pairs) ≡ has_name_twice_in l.pairs
