use Rattle.std.proofs.Common.{rules, ◌≡◌, ◌∙◌, ◌+◌, ◌-◌, ◌<◌, ◌≤◌, ◌++◌, ◌∷◌, [], ℕ, get_or, length, map, ap, sym, arith}
use Rattle.am_alerts.specs.Layout.{preorder, planted}
use Rattle.am_alerts.specs.RouteLayouts.{part}
use Rattle.am_alerts.specs.declared.route.Child.{Child}
use Rattle.am_model.specs.RouteKeys.{key_below, keys_below}
use Rattle.am_model.proofs.configuration.RouteKeys.{IsKeyed, keyed_here, length_children, walk_more, walk_all}
use Rattle.am_model.proofs.route_keys.+push_keys.Goals as goal

-- the index before the position behind it
before : (at : ℕ) → at + 1 - 1 ≡ at
before at = omega arith

pub bounds-children-at : goal.bounds-children-at
bounds-children-at t c =
    omega (arith, ap length c.children-children.ensures.children, length_children c.args.routes.now, c.loop-at-test.true, c.loop-at.invariant.within)

pub push_keys-requires : goal.push_keys-requires
push_keys-requires t c =
    let f = c.args.routes.now.below in
    let at = c.loop-at.at in
    let to = c.args.to in
    let x = c.index-children-at.result in
    let is : IsKeyed f at to (at + 1 + c.below.result) x c.args.above.now =
    keyed_here f at to c.below.result x c.args.above.now c.loop-at-test.true c.loop-at.invariant.within
    (c.index-children-at.is ∙ ap (λ cs. get_or cs at x) c.children-children.ensures.children)
    (c.below.ensures ∙ ap (λ n. get_or (map (λ t. t.1) (preorder f)) n 0) (before at)) c.loop-at.invariant.is_preorder in
    let space : at + 1 + c.below.result ≤ to = is.ends in
    let begun : c.args.from ≤ at = c.loop-at.invariant.begun in
    let within : at < to = c.loop-at-test.true in
    (search rules, (omega arith, (omega (arith, space, c.loop-at.invariant.within), is.below)))

pub loop-at-preserved : goal.loop-at-preserved
loop-at-preserved t c =
    let f = c.args.routes.now.below in
    let at = c.loop-at.at in
    let to = c.args.to in
    let above = c.args.above.now in
    let x = c.index-children-at.result in
    let end = at + 1 + c.below.result in
    let is : IsKeyed f at to end x above =
    keyed_here f at to c.below.result x above c.loop-at-test.true c.loop-at.invariant.within
    (c.index-children-at.is ∙ ap (λ cs. get_or cs at x) c.children-children.ensures.children)
    (c.below.ensures ∙ ap (λ n. get_or (map (λ t. t.1) (preorder f)) n 0) (before at)) c.loop-at.invariant.is_preorder in
    let keys = c.loop-at.keys.items in
    let pushed = c.push.new.self.items in
    let key : c.in_ok-key.key ≡ key_below above x.matchers =
    c.in_ok-key.ensures ∙ ap (key_below above) c.as_slice.ensures ∙ ap (λ (y : Child). key_below above y.matchers) (sym c.index-children-at.is) in
    let one : pushed ≡ keys ++ key_below above x.matchers ∷ [] =
    c.in_ok-push.ensures.items ∙ ap (λ k. keys ++ k ∷ []) (c.in_ok-copy.ensures ∙ key) in
    let rest : c.push_keys.new.keys.items ≡ pushed ++ keys_below (key_below above x.matchers) (planted (part (at + 1) end (preorder f))) =
    c.in_ok-push_keys.ensures ∙ ap (λ k. pushed ++ keys_below k (planted (part (at + 1) end (preorder f)))) (c.as_str.ensures ∙ key) in
    let begun : c.args.from ≤ at = c.loop-at.invariant.begun in
    record {
      begun = omega (arith, begun);
      ordered = is.ends;
      within = c.loop-at.invariant.within;
      is_preorder = is.after;
      so_far = walk_more f at to end x above is keys pushed c.push_keys.new.keys.items _ c.loop-at.invariant.so_far one rest;
    }

pub returns : goal.returns
returns t c =
    walk_all c.args.routes.now.below c.loop-at.at c.args.to c.args.above.now c.loop-at.keys.items _ c.loop-at-test.false c.loop-at.invariant.so_far
