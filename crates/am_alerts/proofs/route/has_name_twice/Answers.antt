use Rattle.std.proofs.Common.{◌≡◌, ◌∙◌, ◌+◌, ◌-◌, ◌<◌, List, ℕ, drop, get_or, length, map, ap, sym, arith, true, false}
use Rattle.std.proofs.lemmas.Bool.{not-true, not-false}
use Rattle.am_alerts.specs.Labels.{has_text_twice, occurs_in}
use Rattle.am_alerts.specs.declared.route.Child.{Child}
use Rattle.am_alerts.proofs.RouteNames.{name-met, name-once, name-put, or_later}
use Rattle.am_alerts.proofs.route.has_name_twice.Goals as goal

pub returns-then-not-branch : goal.returns-then-not-branch
returns-then-not-branch c =
    let cs : List Child = c.args.children.now in
    let i = c.loop-i.i in
    let n = length cs - i in
    let at = length cs - (i + 1) in
    let d : Child = c.index-children-children.result in
    let within : at < length cs = omega (arith, c.loop-i-test.true) in
    let next : n ≡ at + 1 = omega (arith, c.loop-i-test.true) in
    let place : length cs - 1 - i ≡ at = omega arith in
    let here : d ≡ get_or cs at d = c.index-children-children.is ∙ ap (λ k. get_or cs k d) place in
    let old : c.in_ok-insert.field-0 ≡ false = c.if-not-branch.true in
    let met : occurs_in d.route.name (map (λ e. e.route.name) (drop n cs)) ≡ true =
    ap (λ t. occurs_in t (map (λ e. e.route.name) (drop n cs))) (sym c.as_str.ensures) ∙ sym (c.loop-i.invariant.names c.as_str.result)
    ∙ not-false _ (sym c.in_ok-insert.ensures.added ∙ old) in
    sym (or_later (occurs_in c.args.root.now.name (map (λ e. e.route.name) cs)) (has_text_twice (map (λ e. e.route.name) cs))
    (name-met cs at n d within next here met))

pub loop-i-preserved : goal.loop-i-preserved
loop-i-preserved c =
    let cs : List Child = c.args.children.now in
    let i = c.loop-i.i in
    let n = length cs - i in
    let at = length cs - (i + 1) in
    let d : Child = c.index-children-children.result in
    let within : at < length cs = omega (arith, c.loop-i-test.true) in
    let next : n ≡ at + 1 = omega (arith, c.loop-i-test.true) in
    let place : length cs - 1 - i ≡ at = omega arith in
    let here : d ≡ get_or cs at d = c.index-children-children.is ∙ ap (λ k. get_or cs k d) place in
    let new : c.in_ok-insert.field-0 ≡ true = c.if-not-branch.false in
    let unmet : occurs_in d.route.name (map (λ e. e.route.name) (drop n cs)) ≡ false =
    ap (λ t. occurs_in t (map (λ e. e.route.name) (drop n cs))) (sym c.as_str.ensures) ∙ sym (c.loop-i.invariant.names c.as_str.result)
    ∙ not-true _ (sym c.in_ok-insert.ensures.added ∙ new) in
    record {
      names = λ q. name-put cs at n d within next here c.loop-i.names c.insert.new.self c.as_str.result q c.as_str.ensures
          (c.loop-i.invariant.names q) (c.in_ok-insert.ensures.updates.0 q);
      once = name-once cs at n d within next here unmet c.loop-i.invariant.once;
    }
