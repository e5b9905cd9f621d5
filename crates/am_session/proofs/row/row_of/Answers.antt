use Rattle.std.proofs.Common.{◌≡◌, ◌∙◌, ℕ, Option, None, Some, ap, subst, sym}
use Rattle.std.specs.Prelude.{IfOk}
use Rattle.am_session.specs.Row.{route_named, row_under}
use Rattle.am_session.proofs.Names.{route_within}
use Rattle.am_session.proofs.row.row_of.Goals as goal

pub row_under-requires : goal.row_under-requires
row_under-requires c =
    let tree = c.args.config.now.routes in
    let named : c.find.result ≡ route_named tree c.args.named.group.route = c.find.ensures tree c.requires ∙ ap (route_named tree) c.as_str.ensures in
    route_within tree c.args.named.group.route c.in-Some.route (sym named ∙ c.in-Some.is)

pub returns-in-Some : goal.returns-in-Some
returns-in-Some c =
    let tree = c.args.config.now.routes in
    let named : c.find.result ≡ route_named tree c.args.named.group.route = c.find.ensures tree c.requires ∙ ap (route_named tree) c.as_str.ensures in
    let there : Some c.in-Some.route ≡ route_named tree c.args.named.group.route = sym c.in-Some.is ∙ named in
    subst (λ (o : Option ℕ). IfOk c.row_under.result (λ found. found ≡ row_under c.args.config.now c.args.named o)) there c.row_under.ensures

pub returns-in-None : goal.returns-in-None
returns-in-None c =
    let tree = c.args.config.now.routes in
    let named : c.find.result ≡ route_named tree c.args.named.group.route = c.find.ensures tree c.requires ∙ ap (route_named tree) c.as_str.ensures in
    let none : None ≡ route_named tree c.args.named.group.route = sym c.in-None.is ∙ named in
    ap (row_under c.args.config.now c.args.named) none
