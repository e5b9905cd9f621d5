use Rattle.std.proofs.Common.{rules, ◌≡◌, ◌&&◌, ◌∙◌, inr, ap, sym, refl, length, map, None, Some}
use Rattle.std.specs.Prelude.{nat_le}
use Rattle.am_alerts.specs.Forest.{height, listed}
use Rattle.am_alerts.specs.Layout.{preorder}
use Rattle.am_alerts.specs.Nested.{forest, nested_of, settled_below}
use Rattle.am_alerts.specs.RouteLayouts.{layout_of}
use Rattle.am_alerts.specs.RoutingTree.{fault_where, tree_fault}
use Rattle.am_alerts.specs.declared.limits.TheConstants.{MAX_DEPTH, MAX_ROUTES}
use Rattle.am_alerts.proofs.Kept.{fault_nested, is_planted_nested, tree_from_nested}
use Rattle.am_alerts.proofs.routes.Routes.nested.Goals as goal

pub invariant_of-result : goal.invariant_of-result
invariant_of-result c =
    let rules_below = forest c.args.routes.items in
    let cs = c.push_nodes.new.children.items in
    let ps = c.push_nodes.new.layouts.items in
    let children : cs ≡ map (λ r. r.child) (listed (settled_below c.args.root rules_below)) =
    rw c.new-children.ensures.items at c.in_ok-push_nodes.ensures.children in
    let layouts : ps ≡ map layout_of (preorder (settled_below c.args.root rules_below)) =
    rw c.new-layouts.ensures.items at c.in_ok-push_nodes.ensures.layouts in
    let size : c.len.result ≡ length cs = search rules in
    let low : c.is_low-low.result ≡ nat_le (height rules_below) MAX_DEPTH = rw c.as_slice.ensures.value at c.is_low-low.ensures in
    let fits : c.fit-fits.result ≡ (nat_le (length cs) MAX_ROUTES && nat_le (height rules_below) MAX_DEPTH) =
    c.fit-fits.ensures ∙ ap (λ n. nat_le n MAX_ROUTES && c.is_low-low.result) size ∙ ap (λ b. nat_le (length cs) MAX_ROUTES && b) low in
    let none : fault_where (nat_le (length cs) MAX_ROUTES && nat_le (height rules_below) MAX_DEPTH) c.args.root cs ≡ None =
    sym ((rw c.as_slice-3.ensures.value at c.in-None.ensures) ∙ ap (λ b. fault_where b c.args.root cs) fits) in
    rw (c.from.ensures, c.from-in-None.ensures) (is_planted_nested c.args.root rules_below cs ps children layouts none)

pub returns-in-None-clause-value : goal.returns-in-None-clause-value
returns-in-None-clause-value c =
    let rules_below = forest c.args.routes.items in
    let cs = c.push_nodes.new.children.items in
    let ps = c.push_nodes.new.layouts.items in
    let children : cs ≡ map (λ r. r.child) (listed (settled_below c.args.root rules_below)) =
    rw c.new-children.ensures.items at c.in_ok-push_nodes.ensures.children in
    let layouts : ps ≡ map layout_of (preorder (settled_below c.args.root rules_below)) =
    rw c.new-layouts.ensures.items at c.in_ok-push_nodes.ensures.layouts in
    rw (c.from.ensures, c.from-in-None.ensures) (tree_from_nested c.args.root rules_below cs ps children layouts)

pub returns-in-Some-clause-refused : goal.returns-in-Some-clause-refused
returns-in-Some-clause-refused c =
    let rules_below = forest c.args.routes.items in
    let cs = c.push_nodes.new.children.items in
    let ps = c.push_nodes.new.layouts.items in
    let children : cs ≡ map (λ r. r.child) (listed (settled_below c.args.root rules_below)) =
    rw c.new-children.ensures.items at c.in_ok-push_nodes.ensures.children in
    let layouts : ps ≡ map layout_of (preorder (settled_below c.args.root rules_below)) =
    rw c.new-layouts.ensures.items at c.in_ok-push_nodes.ensures.layouts in
    let size : c.len.result ≡ length cs = search rules in
    let low : c.is_low-low.result ≡ nat_le (height rules_below) MAX_DEPTH = rw c.as_slice.ensures.value at c.is_low-low.ensures in
    let fits : c.fit-fits.result ≡ (nat_le (length cs) MAX_ROUTES && nat_le (height rules_below) MAX_DEPTH) =
    c.fit-fits.ensures ∙ ap (λ n. nat_le n MAX_ROUTES && c.is_low-low.result) size ∙ ap (λ b. nat_le (length cs) MAX_ROUTES && b) low in
    let some : tree_fault (nested_of c.args.root rules_below) ≡ Some c.in-Some.fault =
    sym ((rw c.as_slice-3.ensures.value at c.in-Some.ensures) ∙ ap (λ b. fault_where b c.args.root cs) fits
    ∙ fault_nested c.args.root rules_below cs ps children layouts) in
    inr (c.in-Some.fault, refl, some)
