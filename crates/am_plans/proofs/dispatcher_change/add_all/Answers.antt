use Rattle.std.proofs.Common.{◌≡◌, ◌∙◌, ℕ, List, [], ap, map, refl, subst, sym}
use Rattle.std.specs.Prelude.{IsTrue}
use Rattle.serde_json.specs.Data.{Members}
use Rattle.serde_json.specs.Find.{get_member}
use Rattle.serde_json.specs.View.{members_view, view}
use Rattle.am_json.proofs.Decoding.{found, narrowed}
use Rattle.am_json.specs.Decoding.{HasOr}
use Rattle.am_json.specs.declared.reader.Mode.{Mode}
use Rattle.am_plans.proofs.Decodings.{at_none, at_some}
use Rattle.am_plans.proofs.DispatcherChanges.{adds_none, ok_more}
use Rattle.am_plans.specs.DispatcherChange.{AddsItems, DecodesTo, IsListOrOne, ItemData, item_of, may_all_follow, name_of}
use Rattle.am_plans.specs.declared.dispatcher_change.DispatcherChangeItem.{DispatcherChangeItem}
use Rattle.am_plans.specs.declared.dispatcher_change.Kind.{Kind}
use Rattle.am_plans.proofs.dispatcher_change.add_all.Goals as goal

-- what is never refused
abbrev Decodes : Mode → List DispatcherChangeItem → Kind → ℕ → Members → List ItemData → Type 0
Decodes d before kind until members more =
    IsTrue (may_all_follow until (map item_of before) more) × HasOr (IsListOrOne (DecodesTo kind d)) [] (name_of kind) members more

-- a member that isn't there says none
pub returns-in_default-clause-added : goal.returns-in_default-clause-added
returns-in_default-clause-added c =
    let members = members_view c.args.top.now.members in
    let there = c.in_default.ensures ∙ ap (λ (n : List ℕ). get_member n members) c.name_of-name.ensures in
    let none : List ItemData = [] in (
      none,
      adds_none c.args.until (map item_of c.args.items.now.items),
      at_none (get_member (name_of c.args.kind) members) (none ≡ []) (λ v. IsListOrOne (DecodesTo c.args.kind c.args.top.now.mode) v none) there refl,
    )

pub returns-clause-added : goal.returns-clause-added
returns-clause-added c =
    let members = members_view c.args.top.now.members in
    let d = c.args.top.now.mode in
    let before = map item_of c.args.items.now.items in
    let value = view c.in-Some.value.now in
    let there = c.in-Some.ensures ∙ ap (λ (n : List ℕ). get_member n members) c.name_of-name.ensures in
    let Adds = λ (more : List ItemData). AddsItems c.args.until before (map item_of c.add_value.new.items.items) more in
    let Of = λ (e : Mode) (more : List ItemData). IsListOrOne (DecodesTo c.args.kind e) value more in
    ok_more ((more : List ItemData) × Adds more × Of c.member.result.mode more)
    ((more : List ItemData) × Adds more × HasOr (IsListOrOne (DecodesTo c.args.kind d)) [] (name_of c.args.kind) members more)
    (λ all. (
      all.0,
      all.1,
      at_some (get_member (name_of c.args.kind) members) value (all.0 ≡ []) (λ v. IsListOrOne (DecodesTo c.args.kind d) v all.0) there
          (subst (λ (e : Mode). Of e all.0) c.member.ensures.mode all.2),
    ))
    c.add_value.result c.add_value.ensures.added

pub returns-clause-refused : goal.returns-clause-refused
returns-clause-refused c =
    let members = members_view c.args.top.now.members in
    let d = c.args.top.now.mode in
    let before = c.args.items.now.items in
    let value = view c.in-Some.value.now in
    let there = c.in-Some.ensures ∙ ap (λ (n : List ℕ). get_member n members) c.name_of-name.ensures in
    let May = λ (more : List ItemData). IsTrue (may_all_follow c.args.until (map item_of before) more) in
    let Of = λ (e : Mode) (more : List ItemData). IsListOrOne (DecodesTo c.args.kind e) value more in
    narrowed (λ (more : List ItemData). May more × Of c.member.result.mode more) (Decodes d before c.args.kind c.args.until members)
    (λ more decoded. (
      decoded.0,
      subst (λ (e : Mode). Of e more) (sym c.member.ensures.mode)
          (found (more ≡ []) (λ v. IsListOrOne (DecodesTo c.args.kind d) v more) value (get_member (name_of c.args.kind) members) there decoded.1),
    ))
    c.add_value.result c.add_value.ensures.refused
