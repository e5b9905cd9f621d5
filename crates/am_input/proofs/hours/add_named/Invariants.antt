use Rattle.am_input.specs.Clocks.{AddsFiled}
use Rattle.am_input.proofs.hours.add_named.Given as goal

-- the zones so far
abbrev pub invariant-loop-name : goal.invariant-loop-name
invariant-loop-name g l = AddsFiled l.initial.zones.items l.zones.items
