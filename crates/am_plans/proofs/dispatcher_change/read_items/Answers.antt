use Rattle.std.proofs.Common.{rules, ◌≡◌, ◌++◌, ◌∙◌, ℕ, List, [], true, ap, codes, map, subst, sym}
use Rattle.serde_json.specs.Find.{get_member}
use Rattle.serde_json.specs.View.{members_view}
use Rattle.am_json.proofs.Decoding.{handed_on}
use Rattle.am_json.proofs.Once.{one_or}
use Rattle.am_model.specs.Lists.{in_order}
use Rattle.am_plans.proofs.DispatcherChanges.{adds_then, may_parts, one_list_or_one, one_reload, sorted_items}
use Rattle.am_plans.specs.DispatcherChange.{AddsItems, AreItemsIn, DecodesToReload, IsListOrOne, ItemData, at_cmp, item_of, may_all_follow}
use Rattle.am_plans.specs.declared.dispatcher_change.DispatcherChangeItem.{DispatcherChangeItem}
use Rattle.am_plans.proofs.dispatcher_change.read_items.Goals as goal

pub returns-clause-decoded : goal.returns-clause-decoded
returns-clause-decoded c =
    let until = c.args.until in
    let first = c.new-items.result.items in
    let items = c.add_all-2.new.items.items in
    let sorted = c.sort_unstable_by.new.self.items in
    let reloads = c.in_ok-add_all.ensures.added in
    let restarts = c.in_ok-add_all-2.ensures.added in
    let both : AddsItems until (map item_of first) (map item_of items) (reloads.0 ++ restarts.0) =
    adds_then until (map item_of first) (map item_of c.add_all.new.items.items) (map item_of items) reloads.0 restarts.0 reloads.1 restarts.1 in
    let none : map item_of first ≡ [] = ap (map item_of) c.new-items.ensures.items in
    let all : AddsItems until [] (map item_of items) (reloads.0 ++ restarts.0) =
    subst (λ (bs : List ItemData). AddsItems until bs (map item_of items) (reloads.0 ++ restarts.0)) none both in
    let may : may_all_follow until [] (map item_of items) ≡ true = subst (λ (is : List ItemData). may_all_follow until [] is ≡ true) (sym all.is) all.may in
    record {
      reloads = reloads.0;
      restarts = restarts.0;
      reloads_are = reloads.2;
      restarts_are = restarts.2;
      may = all.may;
      is = sorted_items until items sorted c.sort_unstable_by.ensures.permutation c.sort_unstable_by.ensures.sorted (λ a r f' k. search rules) may ∙ ap (in_order at_cmp) all.is;
    }

-- what is given can be added to what was there first, which is nothing
from_none : (until : ℕ) (first : List DispatcherChangeItem) (items : List ItemData) → first ≡ [] → may_all_follow until [] items ≡ true
    → may_all_follow until (map item_of first) items ≡ true
from_none until first items none may = subst (λ (bs : List DispatcherChangeItem). may_all_follow until (map item_of bs) items ≡ true) (sym none) may

pub returns-in_err-add_all-clause-refused : goal.returns-in_err-add_all-clause-refused
returns-in_err-add_all-clause-refused c =
    let until = c.args.until in
    handed_on (AreItemsIn c.args.top.now.mode until (members_view c.args.top.now.members)) c.from_residual.result c.in_err-add_all.field-0.0 c.from_residual.ensures.1
    (λ refusal items decoded.
    let may = (may_parts until [] decoded.reloads decoded.restarts decoded.may).0 in
    c.in_err-add_all.ensures.refused refusal decoded.reloads (from_none until c.new-items.result.items decoded.reloads c.new-items.ensures.items may, decoded.reloads_are))

pub returns-in_err-add_all-2-clause-refused : goal.returns-in_err-add_all-2-clause-refused
returns-in_err-add_all-2-clause-refused c =
    let until = c.args.until in
    let d = c.args.top.now.mode in
    let members = members_view c.args.top.now.members in
    let first = c.new-items.result.items in
    let reloads = c.in_ok-add_all.ensures.added in
    handed_on (AreItemsIn d until members) c.from_residual-in_err-add_all-2.result c.in_err-add_all-2.field-0.0 c.from_residual-in_err-add_all-2.ensures.1
    (λ refusal items decoded.
    let same : decoded.reloads ≡ reloads.0 =
    one_or (IsListOrOne (DecodesToReload d)) (one_list_or_one (DecodesToReload d) (one_reload d)) [] (get_member (codes "reload") members) decoded.reloads reloads.0 decoded.reloads_are reloads.2 in
    let none : map item_of first ≡ [] = ap (map item_of) c.new-items.ensures.items in
    let before : decoded.reloads ≡ map item_of c.add_all.new.items.items = same ∙ sym (reloads.1.is ∙ ap (λ (bs : List ItemData). bs ++ reloads.0) none) in
    let may = (may_parts until [] decoded.reloads decoded.restarts decoded.may).1 in
    c.in_err-add_all-2.ensures.refused refusal decoded.restarts
    (subst (λ (bs : List ItemData). may_all_follow until bs decoded.restarts ≡ true) before may, decoded.restarts_are))
