use Rattle.std.proofs.Common.{◌≡◌, ◌∙◌, ◌∷◌, ℕ, List, [], true, ap, map, sym}
use Rattle.std.proofs.lemmas.List.{map-append}
use Rattle.std.specs.Prelude.{IsTrue}
use Rattle.serde_json.specs.Data.{Data}
use Rattle.serde_json.specs.View.{view}
use Rattle.am_json.proofs.Decoding.{handed_on, starved}
use Rattle.am_json.specs.declared.reader.Mode.{Mode}
use Rattle.am_plans.proofs.Decodings.{true_false}
use Rattle.am_plans.proofs.DispatcherChanges.{may_follow_of, may_one, one_item, plainly_follows}
use Rattle.am_plans.specs.DispatcherChange.{DecodesTo, ItemData, item_of, may_follow}
use Rattle.am_plans.specs.declared.dispatcher_change.DispatcherChangeItem.{DispatcherChangeItem}
use Rattle.am_plans.specs.declared.dispatcher_change.Kind.{Kind}
use Rattle.am_plans.proofs.dispatcher_change.add.Goals as goal

-- what is never refused
abbrev Decodes : Mode → List DispatcherChangeItem → Kind → ℕ → Data → ItemData → Type 0
Decodes d before kind until value item = IsTrue (may_follow until (map item_of before) item.at) × DecodesTo kind d value item

pub returns-clause-added : goal.returns-clause-added
returns-clause-added c =
    let before = c.args.items.now.items in
    let item : DispatcherChangeItem = c.in_ok-item.item in
    let may : plainly_follows c.args.until before item.at ≡ true =
    ap (λ (bs : List DispatcherChangeItem). plainly_follows c.args.until bs item.at) (sym c.as_slice.ensures.value) ∙ sym c.may_follow.ensures ∙ c.if-not-may_follow.false in (
      item_of item,
      record {
        may = may_one c.args.until (map item_of before) (item_of item) (may_follow_of c.args.until before item.at ∙ may);
        is = ap (map item_of) c.in_ok-push.ensures.items ∙ map-append item_of before (item ∷ []);
      },
      c.in_ok-item.ensures.decoded,
    )

pub returns-in_err-item-clause-refused : goal.returns-in_err-item-clause-refused
returns-in_err-item-clause-refused c =
    handed_on (Decodes c.args.reader.now.mode c.args.items.now.items c.args.kind c.args.until (view c.args.value.now)) c.from_residual.result c.in_err-item.field-0.0
    c.from_residual.ensures.1 (λ refusal x decoded. c.in_err-item.ensures.refused refusal x decoded.1)

-- one that may not follow
pub returns-then-not-may_follow-clause-refused : goal.returns-then-not-may_follow-clause-refused
returns-then-not-may_follow-clause-refused c refusal x decoded =
    let before = c.args.items.now.items in
    let item : DispatcherChangeItem = c.in_ok-item.item in
    let same : x ≡ item_of item = one_item c.args.kind c.args.reader.now.mode (view c.args.value.now) x (item_of item) decoded.1 c.in_ok-item.ensures.decoded in
    true_false (ap (λ (y : ItemData). may_follow c.args.until (map item_of before) y.at) same ∙ may_follow_of c.args.until before item.at
    ∙ ap (λ (bs : List DispatcherChangeItem). plainly_follows c.args.until bs item.at) (sym c.as_slice.ensures.value) ∙ sym c.may_follow.ensures) decoded.0 c.if-not-may_follow.true

pub returns-in_err-push-clause-refused : goal.returns-in_err-push-clause-refused
returns-in_err-push-clause-refused c =
    starved (Decodes c.args.reader.now.mode c.args.items.now.items c.args.kind c.args.until (view c.args.value.now)) c.from_residual-in_err-push.result c.from_residual-in_err-push.ensures.1
