use Rattle.std.proofs.Common.{rules, ◌≡◌, ◌∙◌, ◌+◌, ◌-◌, ◌<◌, ℕ, List, ap, arith, cond, drop, get_or, length, string_bytes}
use Rattle.std.specs.Prelude.{Some}
use Rattle.std.specs.HashMap.{get_by_text}
use Rattle.std.specs.Str.{bytes_eq}
use Rattle.std.proofs.lemmas.Map.Text.{hash_map_updates_text}
use Rattle.am_alerts.specs.declared.route.Child.{Child}
use Rattle.am_session.proofs.Names.{child_from, placed_all, placed_more}
use Rattle.am_session.proofs.Rows.{within_routes}
use Rattle.am_session.proofs.route_names.positions_of.Goals as goal

pub overflow_cast-index : goal.overflow_cast-index
overflow_cast-index c =
    let cs : List Child = c.children-children.result.now in
    let within : c.loop-index.index - 1 < length cs = omega (arith, c.loop-index-test.true) in
    omega (arith, within_routes c.args.routes.now cs _ c.children-children.ensures.children within, c.children-children.ensures.few)

pub overflow_add-index : goal.overflow_add-index
overflow_add-index c =
    let cs : List Child = c.children-children.result.now in
    let within : c.loop-index.index - 1 < length cs = omega (arith, c.loop-index-test.true) in
    omega (arith, within_routes c.args.routes.now cs _ c.children-children.ensures.children within, c.children-children.ensures.few)

pub loop-index-preserved : goal.loop-index-preserved
loop-index-preserved c =
    let cs : List Child = c.children-children.result.now in
    let at = c.loop-index.index - 1 in
    let within : at < length cs = omega (arith, c.loop-index-test.true) in
    let next : c.loop-index.index ≡ at + 1 = omega (arith, c.loop-index-test.true) in
    let r : Child = c.index-children-index.result in
    let key : string_bytes c.in_ok-name.name ≡ r.route.name = search rules in
    let here : r ≡ get_or cs at r = c.index-children-index.is in
    let old = get_by_text c.loop-index.positions in
    placed_more cs at c.loop-index.index r old (get_by_text c.insert.new.self) within next here c.loop-index.invariant
    (λ name. hash_map_updates_text (string_bytes c.in_ok-name.name) c.loop-index.positions c.insert.new.self (Some (at + 1)) c.in_ok-insert.ensures.updates name
    ∙ (λ j. cond (bytes_eq (key j) name) (Some (at + 1)) (old name)))

pub returns : goal.returns
returns c =
    let cs : List Child = c.children-children.result.now in
    let key : string_bytes c.in_ok-root.root ≡ c.args.routes.now.root.name = search rules in
    let first : c.loop-index.index ≡ 0 = omega (arith, c.loop-index-test.false) in
    let placed : (name : List ℕ) → get_by_text c.loop-index.positions name ≡ child_from 0 cs name = λ name. c.loop-index.invariant name ∙ ap (λ k. child_from k (drop k cs) name) first in
    placed_all c.args.routes.now cs (string_bytes c.in_ok-root.root) (get_by_text c.loop-index.positions) (get_by_text c.insert-2.new.self)
    c.children-children.ensures.children key placed
    (hash_map_updates_text (string_bytes c.in_ok-root.root) c.loop-index.positions c.insert-2.new.self (Some 0) c.in_ok-insert-2.ensures.updates)
