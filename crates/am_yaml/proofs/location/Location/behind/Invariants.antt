use Rattle.std.proofs.Common.{◌≡◌, ◌+◌, ◌≤◌, take}
use Rattle.am_yaml.specs.Location.{column_behind, line_behind}
use Rattle.am_yaml.proofs.location.Location.behind.Given as goal

abbrev pub invariant-loop-byte : goal.invariant-loop-byte
invariant-loop-byte l =
    (l.line ≡ line_behind (take l.byte-index l.bytes)) × (l.column ≡ column_behind (take l.byte-index l.bytes))
    × (1 ≤ l.column) × (l.line + l.column ≤ l.byte-index + 2)
