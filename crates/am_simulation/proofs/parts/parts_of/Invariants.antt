use Rattle.am_simulation.specs.Parts.{whole_part}
use Rattle.am_simulation.proofs.Parting.{ArePartsSoFar}
use Rattle.am_simulation.proofs.parts.parts_of.Given as goal

-- the changes of the dispatcher so far led to these parts
abbrev pub invariant-loop-dispatcher_change : goal.invariant-loop-dispatcher_change
invariant-loop-dispatcher_change l = ArePartsSoFar (whole_part l.fn.config l.fn.until l.fn.plans.items) l.yielded l.parts.items l.part
