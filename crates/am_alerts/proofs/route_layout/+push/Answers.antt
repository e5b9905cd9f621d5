use Rattle.std.proofs.Common.{rules, ◌≡◌, ◌-◌, ◌++◌, ◌∷◌, [], length, map, set, ap, sym, ◌∙◌}
use Rattle.std.proofs.lemmas.List.{append-nil}
use Rattle.am_alerts.specs.Forest.{count}
use Rattle.am_alerts.specs.Layout.{preorder}
use Rattle.am_alerts.specs.Nested.{forest, settled, settled_below, settled_route}
use Rattle.am_alerts.specs.RouteLayouts.{layout_of}
use Rattle.am_alerts.specs.declared.route_layout.RouteLayout.{RouteLayout}
use Rattle.am_alerts.specs.declared.route.Child.{Child}
use Rattle.am_alerts.specs.declared.spans.Spans.{Spans}
use Rattle.am_alerts.proofs.Forests.{children_more, layout_counted, layouts_more}
use Rattle.am_alerts.proofs.route_layout.+push.Goals as goal

pub push_nodes-loop-node-preserved : goal.push_nodes-loop-node-preserved
push_nodes-loop-node-preserved t c = record {
  children = children_more c.args.above.now c.loop-node.yielded c.in-Some.node c.args.children.now.items c.loop-node.children.items
      c.push_node.new.children.items c.loop-node.invariant.children c.in_ok-push_node.ensures.children;
  layouts = layouts_more c.args.above.now c.loop-node.yielded c.in-Some.node c.args.layouts.now.items c.loop-node.layouts.items
      c.push_node.new.layouts.items c.loop-node.invariant.layouts c.in_ok-push_node.ensures.layouts;
}

pub push_node-returns-clause-layouts : goal.push_node-returns-clause-layouts
push_node-returns-clause-layouts t c =
    let before = c.args.layouts.now.items in
    let now = c.push_nodes.new.layouts.items in
    let above = settled c.args.above.now c.args.rule in
    let below = settled_below above (forest c.args.routes.items) in
    let muted = c.in_ok-child.muted in
    let own : muted ≡ c.args.rule.muted = ap (λ (d : Child × Spans). d.1) c.in_ok-child.ensures in
    let leaf : RouteLayout = record { below = 0; muted = c.none.result } in
    let at : c.len-at.result ≡ length before = search rules in
    let all : c.len.result ≡ length now = search rules in
    let route : c.in_ok-route.route ≡ above = c.in_ok-route.ensures ∙ ap (λ (d : Child × Spans). d.0.route) c.in_ok-child.ensures in
    let was : now ≡ (before ++ leaf ∷ []) ++ map layout_of (preorder below) =
    c.in_ok-push_nodes.ensures.layouts
    ∙ ap (λ ps. ps ++ map layout_of (preorder (settled_below c.in_ok-route.route (forest c.args.routes.items)))) c.in_ok-push-4.ensures.items
    ∙ ap (λ r. (before ++ leaf ∷ []) ++ map layout_of (preorder (settled_below r (forest c.args.routes.items)))) route in
    ap (λ i. set now i (let p : RouteLayout = record { below = c.len.result - i - 1; muted = muted } in p)) at
    ∙ layout_counted before now (settled_route c.args.above.now c.args.rule) leaf below (c.len.result - length before - 1) muted own was
    (ap (λ n. n - length before - 1) all)
    ∙ ap (λ ts. before ++ layout_of (settled_route c.args.above.now c.args.rule, count below) ∷ map layout_of ts)
    (sym (append-nil (preorder below)))
