use Rattle.std.proofs.Common.{take}
use Rattle.am_simulation.specs.Answers.{AreEndsOf, answer_of}
use Rattle.am_simulation.proofs.sending.ends_of.Given as goal

-- the ends so far are those of the first notices
abbrev pub invariant-loop-index : goal.invariant-loop-index
invariant-loop-index g l = AreEndsOf (answer_of g.O.Outages.cut g.O.Outages.outages g.O.Outages.receiver) g.O.Outages.cut l.start 0 (take l.index l.notices) l.ends.items
