use Rattle.std.proofs.Common.{sym, ◌∙◌}
use Rattle.std.proofs.lemmas.List.{take_rest}
use Rattle.am_alerts.proofs.Trees.{twice-found, twice-once}
use Rattle.am_alerts.proofs.route.has_child_twice.Goals as goal

pub returns-then-has_route : goal.returns-then-has_route
returns-then-has_route c =
    twice-found c.args.children.now c.loop-i.i _ c.loop-i-test.true c.loop-i.invariant
    (sym (rw (take_rest, c.as_str.ensures, c.index-children-i.is) at c.has_route.ensures) ∙ c.if-has_route.true)

pub loop-i-preserved : goal.loop-i-preserved
loop-i-preserved c =
    twice-once c.args.children.now c.loop-i.i _ c.loop-i-test.true c.loop-i.invariant
    (sym (rw (take_rest, c.as_str.ensures, c.index-children-i.is) at c.has_route.ensures) ∙ c.if-has_route.false)
