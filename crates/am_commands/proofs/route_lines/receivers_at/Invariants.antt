use Rattle.std.proofs.Common.{◌≡◌, codes, string_bytes, take}
use Rattle.std.specs.List.{join_by}
use Rattle.am_alerts.specs.RoutingTree.{route_at}
use Rattle.am_commands.proofs.route_lines.receivers_at.Given as goal

-- the receivers so far
abbrev pub invariant-loop-index : goal.invariant-loop-index
invariant-loop-index l =
    string_bytes l.receivers ≡ join_by (λ position. (route_at l.routes position).receiver) (codes ",") (take l.index l.positions)
