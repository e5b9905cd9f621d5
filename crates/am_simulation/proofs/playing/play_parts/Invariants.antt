use Rattle.std.proofs.Common.{None}
use Rattle.am_simulation.specs.Playing.{ArePlayed}
use Rattle.am_simulation.proofs.playing.play_parts.Given as goal

-- the parts so far run
abbrev pub invariant-loop-part : goal.invariant-loop-part
invariant-loop-part g l = ArePlayed l.fn.upkeep l.outages None l.yielded l.played.items
