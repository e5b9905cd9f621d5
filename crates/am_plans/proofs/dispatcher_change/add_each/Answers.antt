use Rattle.std.proofs.Common.{◌≡◌, ◌<◌, ◌++◌, ◌∷◌, ℕ, List, [], true, length, map, refl, subst, sym, arith}
use Rattle.std.proofs.lemmas.Bool.{and_parts}
use Rattle.std.proofs.lemmas.List.{take_all}
use Rattle.std.specs.Prelude.{IsTrue}
use Rattle.serde_json.specs.Data.{Items}
use Rattle.serde_json.specs.View.{items_view, view}
use Rattle.serde_json.specs.declared.value.Value.{Value}
use Rattle.am_json.proofs.Decoding.{handed_on}
use Rattle.am_json.specs.Decoding.{DecodeEach}
use Rattle.am_json.specs.declared.reader.Mode.{Mode}
use Rattle.am_plans.proofs.DispatcherChanges.{adds_none, adds_then, may_parts, one_item, decoded_first}
use Rattle.am_plans.proofs.Lists.{decode_next}
use Rattle.am_plans.specs.DispatcherChange.{DecodesTo, ItemData, item_of, may_all_follow, may_follow}
use Rattle.am_plans.specs.declared.dispatcher_change.DispatcherChangeItem.{DispatcherChangeItem}
use Rattle.am_plans.specs.declared.dispatcher_change.Kind.{Kind}
use Rattle.am_plans.proofs.dispatcher_change.add_each.Goals as goal

-- what is never refused
abbrev Decodes : Mode → List DispatcherChangeItem → Kind → ℕ → Items → List ItemData → Type 0
Decodes d before kind until items more = IsTrue (may_all_follow until (map item_of before) more) × DecodeEach (DecodesTo kind d) items more

pub loop-index-init : goal.loop-index-init
loop-index-init c = ([], adds_none _ _, tt)

pub loop-index-preserved : goal.loop-index-preserved
loop-index-preserved c =
    let l = c.loop-index in
    let values = c.args.values.now in
    let value = c.index-values-index.result in
    let added = c.in_ok-add.ensures.added in
    let here : l.index < length values = omega arith in
    let Of = DecodesTo c.args.kind c.args.member.now.mode in
    let read : Of (view value) added.0 = subst (λ (d : Mode). DecodesTo c.args.kind d (view value) added.0) c.item-item.ensures.mode added.2 in (
      l.invariant.0 ++ added.0 ∷ [],
      adds_then _ _ _ _ _ _ l.invariant.1 added.1,
      decode_next Of values l.index value added.0 l.invariant.0 (l.invariant.0 ++ added.0 ∷ []) here c.index-values-index.is l.invariant.2 read refl,
    )

pub returns-clause-added : goal.returns-clause-added
returns-clause-added c =
    let l = c.loop-index in
    let values = c.args.values.now in (
      l.invariant.0,
      l.invariant.1,
      subst (λ (vs : List Value). DecodeEach (DecodesTo c.args.kind c.args.member.now.mode) (items_view vs) l.invariant.0) (take_all l.index values (omega arith)) l.invariant.2,
    )

pub returns-in_err-add-clause-refused : goal.returns-in_err-add-clause-refused
returns-in_err-add-clause-refused c =
    let l = c.loop-index in
    let values = c.args.values.now in
    let value = c.index-values-index.result in
    let before = map item_of c.args.items.now.items in
    let here : l.index < length values = omega arith in
    let Of = DecodesTo c.args.kind c.args.member.now.mode in
    handed_on (Decodes c.args.member.now.mode c.args.items.now.items c.args.kind c.args.until (items_view values)) c.from_residual.result c.in_err-add.field-0.0
    c.from_residual.ensures.1
    (λ refusal xs decoded.
    let first = decoded_first Of (one_item c.args.kind c.args.member.now.mode) values l.index value l.invariant.0 xs here c.index-values-index.is l.invariant.2 decoded.1 in
    let x : ItemData = first.0 in
    let rest = may_parts c.args.until before l.invariant.0 (x ∷ first.1) (subst (λ (ys : List ItemData). may_all_follow c.args.until before ys ≡ true) first.3 decoded.0) in
    let may = (and_parts (may_follow c.args.until (before ++ l.invariant.0) x.at) (may_all_follow c.args.until ((before ++ l.invariant.0) ++ x ∷ []) first.1) rest.1).0 in
    c.in_err-add.ensures.refused refusal x (
      subst (λ (bs : List ItemData). may_follow c.args.until bs x.at ≡ true) (sym l.invariant.1.is) may,
      subst (λ (d : Mode). DecodesTo c.args.kind d (view value) x) (sym c.item-item.ensures.mode) first.2,
    ))
