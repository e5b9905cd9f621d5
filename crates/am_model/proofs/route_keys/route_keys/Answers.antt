use Rattle.std.proofs.Common.{◌≡◌, ◌∙◌, ◌++◌, ◌∷◌, [], ℕ, length, ap, sym, subst, arith}
use Rattle.am_alerts.specs.Layout.{preorder, planted}
use Rattle.am_alerts.specs.RouteLayouts.{IsPreorder, part}
use Rattle.am_model.specs.RouteKeys.{keys_below, keys_of, root_key}
use Rattle.am_model.proofs.configuration.RouteKeys.{length_keys, whole_preorder, whole_planted}
use Rattle.am_model.proofs.route_keys.route_keys.Goals as goal

pub push_keys-requires-clause-preorder : goal.push_keys-requires-clause-preorder
push_keys-requires-clause-preorder c =
    let f = c.args.routes.now.below in
    subst (λ (n : ℕ). IsPreorder (part 0 n (preorder f))) (sym c.last-count.ensures.last) (whole_preorder f)

pub returns-clause-keys : goal.returns-clause-keys
returns-clause-keys c =
    let f = c.args.routes.now.below in
    let root : c.in_ok-copy.field-0 ≡ root_key = c.in_ok-copy.ensures ∙ c.in_ok-root.ensures in
    let first : c.push.new.self.items ≡ root_key ∷ [] = c.in_ok-push.ensures.items ∙ (λ i. c.new-keys.ensures.items i ++ root i ∷ []) in
    let above : c.as_str.result.now ≡ root_key = c.as_str.ensures ∙ c.in_ok-root.ensures in
    let rest : keys_below c.as_str.result.now (planted (part 0 c.last-count.result (preorder f))) ≡ keys_below root_key f =
    (λ i. keys_below (above i) (planted (part 0 (c.last-count.ensures.last i) (preorder f)))) ∙ ap (keys_below root_key) (whole_planted f) in
    c.in_ok-push_keys.ensures ∙ (λ i. first i ++ rest i)

pub returns-clause-few : goal.returns-clause-few
returns-clause-few c =
    let keys : c.push_keys.new.keys.items ≡ keys_of c.args.routes.now = returns-clause-keys c in
    omega (arith, ap length keys, length_keys c.args.routes.now, c.last-count.ensures.last, c.last-count.ensures.few)
