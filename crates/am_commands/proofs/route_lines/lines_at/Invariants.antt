use Rattle.std.proofs.Common.{[], string_bytes, take}
use Rattle.am_commands.specs.Lines.{Adds, AreLines}
use Rattle.am_commands.specs.RouteLines.{IsReachedLine}
use Rattle.am_commands.proofs.route_lines.lines_at.Given as goal

-- the lines so far
abbrev pub invariant-loop-position : goal.invariant-loop-position
invariant-loop-position l =
    Adds (AreLines (IsReachedLine l.routes l.labels) (take l.position-index l.positions)) [] (string_bytes l.lines)
