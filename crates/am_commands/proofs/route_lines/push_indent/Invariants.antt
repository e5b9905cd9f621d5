use Rattle.std.proofs.Common.{◌≡◌, ◌++◌, string_bytes}
use Rattle.am_commands.specs.RouteLines.{indent}
use Rattle.am_commands.proofs.route_lines.push_indent.Given as goal

-- the blanks so far
abbrev pub invariant-loop : goal.invariant-loop
invariant-loop l = string_bytes l.lines ≡ string_bytes l.initial.lines ++ indent l.counter
