use Rattle.std.proofs.Common.{◌≡◌, ◌++◌, codes, string_bytes, take}
use Rattle.std.specs.List.{join_by}
use Rattle.am_commands.specs.RouteLines.{matcher_text}
use Rattle.am_commands.proofs.route_lines.push_each.Given as goal

-- the matchers so far
abbrev pub invariant-loop-index : goal.invariant-loop-index
invariant-loop-index l = string_bytes l.lines ≡ string_bytes l.initial.lines ++ join_by matcher_text (codes ",") (take l.index l.matchers)
