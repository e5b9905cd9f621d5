use Rattle.std.proofs.Common.{◌≡◌, ◌∙◌, Option, Some, MatchOption, ap, option_map, subst, sym}
use Rattle.std.specs.Option.{option_copied}
use Rattle.serde_json.specs.Data.{Members}
use Rattle.serde_json.specs.Find.{as_object}
use Rattle.serde_json.specs.View.{members_view, view}
use Rattle.am_json.specs.Read.{ObjectData}
use Rattle.am_config.proofs.Collecting.{some_read}
use Rattle.am_config.specs.Routes.{HasRoutes, HasTimedRoutes}
use Rattle.am_config.specs.Times.{TimesData}
use Rattle.am_config.specs.Trees.{tree_in}
use Rattle.am_config.specs.declared.hours.Hours.{Hours}
use Rattle.am_config.specs.declared.route.Tree.{Tree}
use Rattle.am_config.proofs.alertmanager.read_parts.Goals as goal

pub returns-clause-routes : goal.returns-clause-routes
returns-clause-routes c = λ none.
    let rules = c.in_ok-rules.ensures none in
    let receivers = c.in_ok-receivers.ensures rules.0 in
    let tree = c.in_ok-tree.ensures receivers.0 in
    let times = c.in_ok-times.ensures tree.0 in
    let hours : Option Hours = option_copied c.args.hours in
    let members : Members = members_view c.in-Some.top.members in
    let t : Tree = c.in-Some-tree.tree in
    let is : Some members ≡ as_object (view c.args.reader.now.value) =
    ap (option_map (λ (o : ObjectData). members_view o.members)) (sym c.in-Some.is ∙ c.in_ok-top.ensures.kept) ∙ c.object.ensures.members in
    let routes =
    some_read (λ (x : Tree). HasRoutes c.in_ok-routing.routing.times members (tree_in x)) c.in_ok-tree.tree t c.in-Some-tree.is tree.1 in
    let timed : HasTimedRoutes hours members (tree_in t) =
    (c.in_ok-times.times, times.1, subst (λ (x : TimesData). HasRoutes x members (tree_in t)) c.in_ok-routing.ensures routes) in
    subst (λ (o : Option Members). MatchOption o ⊥ (λ ms. HasTimedRoutes hours ms (tree_in t))) is timed
