use Rattle.std.proofs.Common.{rules, ◌≡◌, ◌∙◌, ap, sym, length, Result, Ok, None, Some}
use Rattle.std.specs.Prelude.{nat_le}
use Rattle.am_alerts.specs.Fault.{ok_unless}
use Rattle.am_alerts.specs.RouteLayouts.{paired, tree_from}
use Rattle.am_alerts.specs.RoutingTree.{RoutingTree, fault_where, tree_of, level_fault}
use Rattle.am_alerts.specs.declared.limits.TheConstants.{MAX_CHILDREN}
use Rattle.am_alerts.specs.declared.route.RouteFault.{RouteFault}
use Rattle.am_alerts.proofs.Kept.{is_planted_level, level_fault_is, tree_from_level}
use Rattle.am_alerts.proofs.routes.Routes.new.Goals as goal

pub invariant_of-result : goal.invariant_of-result
invariant_of-result c =
    let size : c.len-fits.result ≡ length c.args.children.items = search rules in
    let none : fault_where (nat_le (length c.args.children.items) MAX_CHILDREN) c.args.root c.args.children.items ≡ None =
    ap (λ n. fault_where (nat_le n MAX_CHILDREN) c.args.root c.args.children.items) (sym size)
    ∙ sym (rw c.as_slice-2.ensures.value at c.in-None.ensures) in
    rw (c.from.ensures, c.from-in-None.ensures, c.new-layouts.ensures.items) (is_planted_level c.args.root c.args.children.items none)

pub returns-in-Some : goal.returns-in-Some
returns-in-Some c =
    let size : c.len-fits.result ≡ length c.args.children.items = search rules in
    let some : Some c.in-Some.fault ≡ level_fault (tree_of c.args.root c.args.children.items) =
    (rw c.as_slice-2.ensures.value at c.in-Some.ensures)
    ∙ ap (λ n. fault_where (nat_le n MAX_CHILDREN) c.args.root c.args.children.items) size
    ∙ sym (level_fault_is c.args.root c.args.children.items) in
    ap (λ o. ok_unless o (tree_of c.args.root c.args.children.items)) some

pub returns-in-None : goal.returns-in-None
returns-in-None c =
    let size : c.len-fits.result ≡ length c.args.children.items = search rules in
    let none : None ≡ level_fault (tree_of c.args.root c.args.children.items) =
    (rw c.as_slice-2.ensures.value at c.in-None.ensures)
    ∙ ap (λ n. fault_where (nat_le n MAX_CHILDREN) c.args.root c.args.children.items) size
    ∙ sym (level_fault_is c.args.root c.args.children.items) in
    let made : tree_from c.args.root (paired c.from.result c.from-in-None.result) ≡ tree_of c.args.root c.args.children.items =
    rw (c.from.ensures, c.from-in-None.ensures, c.new-layouts.ensures.items) (tree_from_level c.args.root c.args.children.items) in
    ap (λ (t : RoutingTree). let r : Result RoutingTree RouteFault = Ok t in r) made
    ∙ ap (λ o. ok_unless o (tree_of c.args.root c.args.children.items)) none
