use Rattle.std.proofs.Common.{◌≡◌, ◌∷◌, ℕ, List, [], true, map, subst}
use Rattle.std.proofs.lemmas.Bool.{and_parts}
use Rattle.std.specs.Prelude.{IsTrue}
use Rattle.serde_json.specs.Data.{Data}
use Rattle.serde_json.specs.View.{items_view, view}
use Rattle.am_json.specs.Decoding.{DecodeEach}
use Rattle.am_json.specs.declared.reader.Mode.{Mode}
use Rattle.am_plans.proofs.DispatcherChanges.{as_list, as_one, excludes_more, in_list, in_one, ok_more}
use Rattle.am_plans.specs.DispatcherChange.{AddsItems, DecodesTo, IsListOrOne, ItemData, item_of, may_all_follow, may_follow}
use Rattle.am_plans.specs.declared.dispatcher_change.DispatcherChangeItem.{DispatcherChangeItem}
use Rattle.am_plans.specs.declared.dispatcher_change.Kind.{Kind}
use Rattle.am_plans.proofs.dispatcher_change.add_value.Goals as goal

-- what is never refused
abbrev Decodes : Mode → List DispatcherChangeItem → Kind → ℕ → Data → List ItemData → Type 0
Decodes d before kind until value more = IsTrue (may_all_follow until (map item_of before) more) × IsListOrOne (DecodesTo kind d) value more

pub returns-in-None-clause-added : goal.returns-in-None-clause-added
returns-in-None-clause-added c =
    let before = map item_of c.args.items.now.items in
    let Of = DecodesTo c.args.kind c.args.member.now.mode in
    let value = view c.args.value.now in
    let Adds = λ (more : List ItemData). AddsItems c.args.until before (map item_of c.add.new.items.items) more in
    ok_more ((x : ItemData) × Adds (x ∷ []) × Of value x) ((more : List ItemData) × Adds more × IsListOrOne Of value more)
    (λ one. (one.0 ∷ [], one.1, as_one Of value one.0 c.in-None.ensures one.2)) c.add.result c.add.ensures.added

pub returns-in-None-clause-refused : goal.returns-in-None-clause-refused
returns-in-None-clause-refused c =
    let d = c.args.member.now.mode in
    let before = c.args.items.now.items in
    let Of = DecodesTo c.args.kind d in
    let value = view c.args.value.now in
    excludes_more (λ (x : ItemData). IsTrue (may_follow c.args.until (map item_of before) x.at) × Of value x) (Decodes d before c.args.kind c.args.until value)
    (λ more decoded.
    let one = in_one Of value more c.in-None.ensures decoded.1 in
    let may = subst (λ (ys : List ItemData). may_all_follow c.args.until (map item_of before) ys ≡ true) one.2 decoded.0 in
    (one.0, ((and_parts (may_follow c.args.until (map item_of before) one.0.at) true may).0, one.1)))
    c.add.result c.add.ensures.refused

pub returns-in-Some-clause-added : goal.returns-in-Some-clause-added
returns-in-Some-clause-added c =
    let before = map item_of c.args.items.now.items in
    let Of = DecodesTo c.args.kind c.args.member.now.mode in
    let value = view c.args.value.now in
    let Adds = λ (more : List ItemData). AddsItems c.args.until before (map item_of c.add_each.new.items.items) more in
    let items = items_view c.in-Some.values.now in
    ok_more ((more : List ItemData) × Adds more × DecodeEach Of items more) ((more : List ItemData) × Adds more × IsListOrOne Of value more)
    (λ all. (all.0, all.1, as_list Of value items all.0 c.in-Some.ensures all.2)) c.add_each.result c.add_each.ensures.added

pub returns-in-Some-clause-refused : goal.returns-in-Some-clause-refused
returns-in-Some-clause-refused c =
    let d = c.args.member.now.mode in
    let before = c.args.items.now.items in
    let Of = DecodesTo c.args.kind d in
    let value = view c.args.value.now in
    let items = items_view c.in-Some.values.now in
    excludes_more (λ (more : List ItemData). IsTrue (may_all_follow c.args.until (map item_of before) more) × DecodeEach Of items more) (Decodes d before c.args.kind c.args.until value)
    (λ more decoded. (more, (decoded.0, in_list Of value items more c.in-Some.ensures decoded.1))) c.add_each.result c.add_each.ensures.refused
