use Rattle.std.proofs.Common.{string_bytes, take}
use Rattle.am_commands.specs.Lines.{Adds, AreLines}
use Rattle.am_commands.specs.RouteLines.{IsChildLine}
use Rattle.am_commands.proofs.route_lines.push_children.Given as goal

-- the lines so far
abbrev pub invariant-loop-index : goal.invariant-loop-index
invariant-loop-index l =
    Adds (AreLines IsChildLine (take l.index l.child-items)) (string_bytes l.initial.lines) (string_bytes l.lines)
