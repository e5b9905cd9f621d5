use Rattle.std.proofs.Common.{◌≡◌, Option, [], subst, sym}
use Rattle.std.proofs.lemmas.Result.{IfOk-weaker}
use Rattle.std.specs.Option.{option_copied}
use Rattle.serde_json.specs.Data.{Data}
use Rattle.serde_json.specs.View.{view}
use Rattle.am_alerts.specs.RoutingTree.{RoutingTree}
use Rattle.am_config.proofs.Timed.{some_is}
use Rattle.am_config.specs.Routes.{TimedRoutesAre}
use Rattle.am_config.specs.Trees.{tree_in}
use Rattle.am_config.specs.declared.alertmanager.Parts.{Parts}
use Rattle.am_config.specs.declared.hours.Hours.{Hours}
use Rattle.am_config.proofs.alertmanager.read_alertmanager.Goals as goal

pub returns-then-is_empty-clause-routes : goal.returns-then-is_empty-clause-routes
returns-then-is_empty-clause-routes c =
    let hours : Option Hours = option_copied c.args.hours in
    let value : Data = view c.args.reader.now.value in
    let none = c.is_empty.ensures.0 c.if-is_empty.true in
    let timed =
    some_is (λ (p : Parts). TimedRoutesAre hours value (tree_in p.tree)) c.in_ok-parts.parts c.in-Some.parts c.in-Some.is
    (c.in_ok-parts.ensures.routes none) in
    IfOk-weaker c.finish.result _ _ (λ read is. (hours, subst (λ (t : RoutingTree). TimedRoutesAre hours value t) (sym is) timed)) c.finish.ensures.routes
