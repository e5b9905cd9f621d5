use Rattle.std.proofs.Common.{◌≡◌, None, subst, sym, arith}
use Rattle.am_alerts.specs.RoutingTree.{RoutingTree, level_fault, tree_of}
use Rattle.am_json.proofs.Configured.{many_children}
use Rattle.am_json.proofs.Made.{made_is, made_well, unmade}
use Rattle.am_json.proofs.config.make_routes.Goals as goal

pub returns-in-Ok-clause-made : goal.returns-in-Ok-clause-made
returns-in-Ok-clause-made c =
    let tree : RoutingTree = tree_of c.args.root c.args.children.items in
    made_is (level_fault tree) tree c.in-Ok.routes c.in-Ok.ensures

pub returns-in-Ok-clause-sound : goal.returns-in-Ok-clause-sound
returns-in-Ok-clause-sound c =
    let tree : RoutingTree = tree_of c.args.root c.args.children.items in
    let made : c.in-Ok.routes ≡ tree = made_is (level_fault tree) tree c.in-Ok.routes c.in-Ok.ensures in
    subst (λ (t : RoutingTree). level_fault t ≡ None) (sym made) (made_well (level_fault tree) tree c.in-Ok.routes c.in-Ok.ensures)

pub returns-in-Err-clause-refused : goal.returns-in-Err-clause-refused
returns-in-Err-clause-refused c none =
    let tree : RoutingTree = tree_of c.args.root c.args.children.items in
    unmade (level_fault tree) tree _ c.in-Err.ensures none

pub returns-then-len-gt-MAX_CHILDREN-clause-refused : goal.returns-then-len-gt-MAX_CHILDREN-clause-refused
returns-then-len-gt-MAX_CHILDREN-clause-refused c none = many_children c.args.root c.args.children.items (omega (arith, c.if-len-gt-MAX_CHILDREN.true, c.len.ensures)) none
