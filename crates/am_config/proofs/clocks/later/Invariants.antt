use Rattle.std.proofs.Common.{◌≡◌, map, take}
use Rattle.am_config.specs.Later.{span_later}
use Rattle.am_config.proofs.clocks.later.Given as goal

-- the spans so far, later
abbrev pub invariant-loop-span : goal.invariant-loop-span
invariant-loop-span l = l.moved.items ≡ map (span_later l.by) (take l.span-index l.spans)
