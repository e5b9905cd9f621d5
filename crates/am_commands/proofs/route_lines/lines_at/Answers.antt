use Rattle.std.proofs.Common.{[], string_bytes}
use Rattle.am_commands.proofs.Lines.{next_line}
use Rattle.am_commands.specs.RouteLines.{IsReachedLine}
use Rattle.am_commands.proofs.route_lines.lines_at.Goals as goal

pub loop-position-preserved : goal.loop-position-preserved
loop-position-preserved c =
    next_line (IsReachedLine c.args.routes.now c.args.labels.now) c.args.positions.now c.loop-position.position-index 0 []
    (string_bytes c.loop-position.lines) (string_bytes c.push_position.new.lines) c.loop-position-test.true c.loop-position.invariant
    c.in_ok-push_position.ensures
