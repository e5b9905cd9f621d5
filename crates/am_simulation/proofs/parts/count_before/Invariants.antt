use Rattle.std.proofs.Common.{◌≡◌, ◌+◌, drop}
use Rattle.std.specs.List.{prefix_len}
use Rattle.am_simulation.specs.Parts.{is_before}
use Rattle.am_simulation.proofs.parts.count_before.Given as goal

-- the plans so far come before
abbrev pub invariant-loop-i : goal.invariant-loop-i
invariant-loop-i l = prefix_len (is_before l.at) l.plans ≡ l.i + prefix_len (is_before l.at) (drop l.i l.plans)
