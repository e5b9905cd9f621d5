use Rattle.std.proofs.Common.{string_bytes, subst}
use Rattle.am_alerts.specs.declared.route.Child.{Child}
use Rattle.am_commands.proofs.Lines.{next_line}
use Rattle.am_commands.specs.Lines.{Adds}
use Rattle.am_commands.specs.RouteLines.{IsChildLine}
use Rattle.am_commands.proofs.route_lines.push_children.Goals as goal

pub loop-index-preserved : goal.loop-index-preserved
loop-index-preserved c =
    next_line IsChildLine c.children-child-items.result.now c.loop-index.index c.child-item.result (string_bytes c.args.lines.now)
    (string_bytes c.loop-index.lines) (string_bytes c.push_child.new.lines) c.loop-index-test.true c.loop-index.invariant
    (subst (λ (child : Child). Adds (IsChildLine child) (string_bytes c.loop-index.lines) (string_bytes c.push_child.new.lines)) c.child-item.is
    c.in_ok-push_child.ensures)
