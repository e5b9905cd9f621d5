-- DispatcherChanges: what reloads and restarts may follow, what a JSON value says of them, and their order.
use denote.Param.Members.{Mut}
use Rattle.std.proofs.Common.{◌≡◌, ◌<◌, ◌&&◌, ◌||◌, ◌==◌, ◌++◌, ◌∙◌, ℕ, zero, suc, Bool, true, false, cond, not, List, [], ◌∷◌, Option, Some, None, MatchOption, Result, Ok, Err, append_assoc, arith, codes, get_or, length, map, refl, sym, ap, subst, take}
use Rattle.std.proofs.lemmas.Bool.{and_from, and_parts}
use Rattle.std.proofs.lemmas.Cmp.{nat_cmp_total, on_total}
use Rattle.std.proofs.lemmas.List.{append-nil, length-map}
use Rattle.std.specs.Borrow.{Bor}
use Rattle.std.specs.Cmp.{IsTotalOrder, IsStrictWeakOrder}
use Rattle.std.specs.Fn.{Called, ComparesAs}
use Rattle.std.specs.List.{AllByRecursion, IsDistinct, list_any}
use Rattle.std.specs.Ordering.{eq_by_cmp, is_eq, nat_cmp}
use Rattle.std.specs.Prelude.{IfErr, IsPermutation, IsSortedBy, OnOk, nat_le, nat_lt}
use Rattle.std.specs.declared.cmp.Ordering.{Ordering}
use Rattle.std.specs.declared.cmp.Ordering.TheVariants.{Less, Equal, Greater}
use Rattle.serde_json.specs.Data.{Data, Items, Members}
use Rattle.serde_json.specs.Find.{as_array, as_object, get_member}
use Rattle.serde_json.specs.View.{items_view, view}
use Rattle.serde_json.specs.declared.value.Value.{Value}
use Rattle.am_json.proofs.Once.{IsOne, one_each, one_or, one_read, one_there}
use Rattle.am_json.specs.Decoding.{DecodeEach, IsInterval}
use Rattle.am_json.specs.Read.{Excludes, interval_in}
use Rattle.am_json.specs.declared.fault.InputFault.{InputFault}
use Rattle.am_json.specs.declared.reader.Mode.{Mode}
use Rattle.am_model.proofs.lists.InOrder.{in_order-map, sort_by_is_in_order}
use Rattle.am_model.proofs.lists.Sets.{any-map}
use Rattle.am_model.specs.Lists.{in_order}
use Rattle.am_plans.specs.DispatcherChange.{AddsItems, AreItemsIn, DecodesTo, DecodesToReload, DecodesToRestart, HasReload, HasRestart, IsCarryover, IsListOrOne}
use Rattle.am_plans.specs.DispatcherChange.{ItemData, at_cmp, item_of, carryover_in, may_all_follow, may_follow}
use Rattle.am_plans.specs.declared.dispatcher_change.DispatcherChangeItem.{DispatcherChangeItem}
use Rattle.am_plans.specs.declared.dispatcher_change.Kind.{Kind}
use Rattle.am_plans.specs.declared.dispatcher_change.Kind.TheVariants.{Reload, Restart}
use Rattle.am_plans.specs.declared.dispatcher_change.TheConstants.{MAX_DISPATCHER_CHANGES}

-- ---- what may follow

-- some may follow others, and more may follow those
pub may_both : (until : ℕ) (before xs ys : List ItemData) → may_all_follow until before xs ≡ true → may_all_follow until (before ++ xs) ys ≡ true
    → may_all_follow until before (xs ++ ys) ≡ true
may_both until before [] ys first then = subst (λ (bs : List ItemData). may_all_follow until bs ys ≡ true) (append-nil before) then
may_both until before (x ∷ xs) ys first then =
    let parts = and_parts (may_follow until before x.at) (may_all_follow until (before ++ x ∷ []) xs) first in
    and_from (may_follow until before x.at) (may_all_follow until (before ++ x ∷ []) (xs ++ ys)) parts.0
    (may_both until (before ++ x ∷ []) xs ys parts.1
    (subst (λ (bs : List ItemData). may_all_follow until bs ys ≡ true) (sym (append_assoc before (x ∷ []) xs)) then))

pub may_parts : (until : ℕ) (before xs ys : List ItemData) → may_all_follow until before (xs ++ ys) ≡ true
    → (may_all_follow until before xs ≡ true) × (may_all_follow until (before ++ xs) ys ≡ true)
may_parts until before [] ys all = (refl, subst (λ (bs : List ItemData). may_all_follow until bs ys ≡ true) (sym (append-nil before)) all)
may_parts until before (x ∷ xs) ys all =
    let parts = and_parts (may_follow until before x.at) (may_all_follow until (before ++ x ∷ []) (xs ++ ys)) all in
    let rest = may_parts until (before ++ x ∷ []) xs ys parts.1 in (
      and_from (may_follow until before x.at) (may_all_follow until (before ++ x ∷ []) xs) parts.0 rest.0,
      subst (λ (bs : List ItemData). may_all_follow until bs ys ≡ true) (append_assoc before (x ∷ []) xs) rest.1,
    )

-- one may follow
pub may_one : (until : ℕ) (before : List ItemData) (x : ItemData) → may_follow until before x.at ≡ true → may_all_follow until before (x ∷ []) ≡ true
may_one until before x may = and_from (may_follow until before x.at) true may refl

pub adds_none : (until : ℕ) (before : List ItemData) → AddsItems until before before []
adds_none until before = record { may = refl; is = sym (append-nil before) }

pub adds_then : (until : ℕ) (before between after xs ys : List ItemData) → AddsItems until before between xs → AddsItems until between after ys
    → AddsItems until before after (xs ++ ys)
adds_then until before between after xs ys first then = record {
  may = may_both until before xs ys first.may (subst (λ (bs : List ItemData). may_all_follow until bs ys ≡ true) first.is then.may);
  is = then.is ∙ ap (λ bs. bs ++ ys) first.is ∙ append_assoc before xs ys;
}

-- ---- none are at one time

any_first : (n : ℕ) (xs ys : List ItemData) → list_any (λ (i : ItemData). i.at == n) (xs ++ ys) ≡ false → list_any (λ (i : ItemData). i.at == n) xs ≡ false
any_first n [] ys none = refl
any_first n (x ∷ xs) ys none = by (x.at == n) none (any_first n xs ys)
  where
    by : (b : Bool) → (b || list_any (λ (i : ItemData). i.at == n) (xs ++ ys)) ≡ false
        → (list_any (λ (i : ItemData). i.at == n) (xs ++ ys) ≡ false → list_any (λ (i : ItemData). i.at == n) xs ≡ false)
        → (b || list_any (λ (i : ItemData). i.at == n) xs) ≡ false
    by true none rest = none
    by false none rest = rest none

any_last : (n : ℕ) (xs : List ItemData) (y : ItemData) → list_any (λ (i : ItemData). i.at == n) (xs ++ y ∷ []) ≡ false → (y.at == n) ≡ false
any_last n [] y none = by (y.at == n) none
  where
    by : (b : Bool) → (b || false) ≡ false → b ≡ false
    by true none = none
    by false none = refl
any_last n (x ∷ xs) y none = any_last n xs y (by (x.at == n) none)
  where
    by : (b : Bool) → (b || list_any (λ (i : ItemData). i.at == n) (xs ++ y ∷ [])) ≡ false → list_any (λ (i : ItemData). i.at == n) (xs ++ y ∷ []) ≡ false
    by true none = absurd (cc)
    by false none = none

differ : (x y : ItemData) → (x.at == y.at) ≡ false → eq_by_cmp at_cmp x y ≡ false
differ x y apart = by (nat_lt x.at y.at) (x.at == y.at) apart
  where
    by : (b e : Bool) → e ≡ false → is_eq (cond b Less (cond e Equal Greater)) ≡ false
    by true e none = refl
    by false true none = none
    by false false none = refl

not_true : (b : Bool) → not b ≡ true → b ≡ false
not_true true is = absurd (cc)
not_true false is = refl

-- nothing else is at the time of what may follow
none_then : (until : ℕ) (before : List ItemData) (at : ℕ) → may_follow until before at ≡ true → list_any (λ (i : ItemData). i.at == at) before ≡ false
none_then until before at may =
    let taken = list_any (λ (i : ItemData). i.at == at) before in
    not_true taken (and_parts (nat_lt (length before) MAX_DISPATCHER_CHANGES && nat_le at until) (not taken) may).1

apart_from : (until : ℕ) (x : ItemData) (before xs : List ItemData)
    → ((n : ℕ) → list_any (λ (i : ItemData). i.at == n) before ≡ false → (x.at == n) ≡ false) → may_all_follow until before xs ≡ true
    → AllByRecursion (λ y. eq_by_cmp at_cmp x y ≡ false) xs
apart_from until x before [] among all = tt
apart_from until x before (y ∷ ys) among all =
    let parts = and_parts (may_follow until before y.at) (may_all_follow until (before ++ y ∷ []) ys) all in (
      differ x y (among y.at (none_then until before y.at parts.0)),
      apart_from until x (before ++ y ∷ []) ys (λ n none. among n (any_first n before (y ∷ []) none)) parts.1,
    )

apart_behind : (until : ℕ) (before xs : List ItemData) → may_all_follow until before xs ≡ true → IsDistinct (eq_by_cmp at_cmp) xs
unfolding IsDistinct
apart_behind until before [] all = tt
apart_behind until before (x ∷ xs) all =
    let parts = and_parts (may_follow until before x.at) (may_all_follow until (before ++ x ∷ []) xs) all in (
      apart_from until x (before ++ x ∷ []) xs (λ n none. any_last n before x none) parts.1,
      apart_behind until (before ++ x ∷ []) xs parts.1,
    )

pub apart : (until : ℕ) (xs : List ItemData) → may_all_follow until [] xs ≡ true → IsDistinct (eq_by_cmp at_cmp) xs
apart until xs all = apart_behind until [] xs all

-- ---- a JSON value says one at most

alike : (a b : ItemData) → a.at ≡ b.at → a.carryover ≡ b.carryover → a.reload ≡ b.reload → a ≡ b
alike a b at carryover reload = λ i. record { at = at i; carryover = carryover i; reload = reload i }

reload_by : (mode : Mode) (o : Option Members) (a b : ItemData) → MatchOption o ⊥ (λ ms. HasReload mode ms a)
    → MatchOption o ⊥ (λ ms. HasReload mode ms b) → (a.at ≡ b.at) × (a.carryover ≡ b.carryover)
reload_by mode None a b is also = absurd is
reload_by mode (Some ms) a b is also = (
  one_there IsInterval (one_read interval_in) (get_member (codes "at") ms) a.at b.at is.at also.at,
  is.carryover ∙ sym also.carryover,
)

pub one_reload : (mode : Mode) → IsOne (DecodesToReload mode)
one_reload mode value a b is also =
    let same = reload_by mode (as_object value) a b is.0 also.0 in
    alike a b same.0 same.1 (is.1 ∙ sym also.1)

restart_by : (mode : Mode) (o : Option Members) (a b : ItemData) → MatchOption o ⊥ (λ ms. HasRestart mode ms a)
    → MatchOption o ⊥ (λ ms. HasRestart mode ms b) → (a.at ≡ b.at) × (a.carryover ≡ b.carryover)
restart_by mode None a b is also = absurd is
restart_by mode (Some ms) a b is also = (
  one_there IsInterval (one_read interval_in) (get_member (codes "at") ms) a.at b.at is.at also.at,
  one_there IsCarryover (one_read carryover_in) (get_member (codes "keeps") ms) a.carryover b.carryover is.carryover also.carryover,
)

pub one_restart : (mode : Mode) → IsOne (DecodesToRestart mode)
one_restart mode value a b is also =
    let same = restart_by mode (as_object value) a b is.0 also.0 in
    alike a b same.0 same.1 (is.1 ∙ sym also.1)

pub one_item : (kind : Kind) (mode : Mode) → IsOne (DecodesTo kind mode)
one_item Reload mode value a b is also = one_reload mode value a b is also
one_item Restart mode value a b is also = one_restart mode value a b is also

pub one_list_or_one : {X : Type 0} (decodes : Data → X → Type 0) → IsOne decodes → IsOne (IsListOrOne decodes)
one_list_or_one {X = X} decodes one value xs ys is also = by (as_array value) is also
  where
    by : (o : Option Items) → MatchOption o ((x : X) × decodes value x × (xs ≡ x ∷ [])) (λ items. DecodeEach decodes items xs)
        → MatchOption o ((y : X) × decodes value y × (ys ≡ y ∷ [])) (λ items. DecodeEach decodes items ys) → xs ≡ ys
    by None is also = is.2 ∙ ap (λ (x : X). x ∷ []) (one value is.0 also.0 is.1 also.1) ∙ sym also.2
    by (Some items) is also = one_each decodes one items xs ys is also

-- ---- the items of an array, one after the other

-- the first some of what an array says are given by its first items
pub decoded_first : {X : Type 0} (decodes : Data → X → Type 0) → IsOne decodes → (values : List Value) (i : ℕ) (value : Value) (done xs : List X) → i < length values
    → value ≡ get_or values i value → DecodeEach decodes (items_view (take i values)) done → DecodeEach decodes (items_view values) xs
    → (x : X) × (left : List X) × decodes (view value) x × (xs ≡ done ++ x ∷ left)
decoded_first decodes one [] i value done xs here is so_far decoded = absurd (omega (arith, here))
decoded_first decodes one (v ∷ vs) i value done [] here is so_far decoded = absurd decoded
decoded_first decodes one (v ∷ vs) zero value [] (x ∷ xs) here is so_far decoded =
    (x, xs, subst (λ (w : Value). decodes (view w) x) (sym is) decoded.0, refl)
decoded_first decodes one (v ∷ vs) zero value (d ∷ done) (x ∷ xs) here is so_far decoded = absurd so_far
decoded_first decodes one (v ∷ vs) (suc i) value [] (x ∷ xs) here is so_far decoded = absurd so_far
decoded_first decodes one (v ∷ vs) (suc i) value (d ∷ done) (x ∷ xs) here is so_far decoded =
    let rest = decoded_first decodes one vs i value done xs (omega (arith, here)) is so_far.1 decoded.1 in
    let same : x ≡ d = one (view v) x d decoded.0 so_far.0 in
    (rest.0, rest.1, rest.2, (λ j. same j ∷ rest.3 j))

-- ---- results that are handed on

pub ok_more : {T E : Type 0} (P Q : Type 0) → (P → Q) → (result : Result T E) → OnOk result P → OnOk result Q
ok_more P Q more (Ok x) p = more p
ok_more P Q more (Err f) p = tt

pub excludes_more : {T X Y : Type 0} (Decodes : X → Type 0) (Also : Y → Type 0) → ((y : Y) → Also y → (x : X) × Decodes x) → (result : Result T InputFault)
    → IfErr result (Excludes Decodes) → IfErr result (Excludes Also)
excludes_more Decodes Also more (Ok x) excluded = tt
excludes_more Decodes Also more (Err fault) excluded = λ refusal y decoded. excluded refusal (more y decoded).0 (more y decoded).1

-- ---- a list, or one thing

pub as_one : {X : Type 0} (decodes : Data → X → Type 0) (value : Data) (x : X) → None ≡ as_array value → decodes value x → IsListOrOne decodes value (x ∷ [])
as_one {X = X} decodes value x none decoded =
    subst (λ (o : Option Items). MatchOption o ((y : X) × decodes value y × (x ∷ [] ≡ y ∷ [])) (λ items. DecodeEach decodes items (x ∷ []))) none (x, decoded, refl)

pub in_one : {X : Type 0} (decodes : Data → X → Type 0) (value : Data) (xs : List X) → None ≡ as_array value → IsListOrOne decodes value xs
    → (x : X) × decodes value x × (xs ≡ x ∷ [])
in_one {X = X} decodes value xs none decoded =
    subst (λ (o : Option Items). MatchOption o ((y : X) × decodes value y × (xs ≡ y ∷ [])) (λ items. DecodeEach decodes items xs)) (sym none) decoded

pub as_list : {X : Type 0} (decodes : Data → X → Type 0) (value : Data) (items : Items) (xs : List X) → Some items ≡ as_array value → DecodeEach decodes items xs
    → IsListOrOne decodes value xs
as_list {X = X} decodes value items xs some decoded =
    subst (λ (o : Option Items). MatchOption o ((y : X) × decodes value y × (xs ≡ y ∷ [])) (λ is. DecodeEach decodes is xs)) some decoded

pub in_list : {X : Type 0} (decodes : Data → X → Type 0) (value : Data) (items : Items) (xs : List X) → Some items ≡ as_array value → IsListOrOne decodes value xs
    → DecodeEach decodes items xs
in_list {X = X} decodes value items xs some decoded =
    subst (λ (o : Option Items). MatchOption o ((y : X) × decodes value y × (xs ≡ y ∷ [])) (λ is. DecodeEach decodes is xs)) (sym some) decoded

-- ---- what is read

-- the test as the code makes it
abbrev pub plainly_follows : ℕ → List DispatcherChangeItem → ℕ → Bool
plainly_follows until items at =
    nat_lt (length items) MAX_DISPATCHER_CHANGES && nat_le at until && not (list_any (λ (i : DispatcherChangeItem). i.at == at) items)

pub may_follow_of : (until : ℕ) (items : List DispatcherChangeItem) (at : ℕ) → may_follow until (map item_of items) at ≡ plainly_follows until items at
may_follow_of until items at =
    λ i. nat_lt (length-map items item_of i) MAX_DISPATCHER_CHANGES && nat_le at until && not (any-map (λ (b : ItemData). b.at == at) item_of items i)

-- the order of what was read
abbrev pub item_cmp : DispatcherChangeItem → DispatcherChangeItem → Ordering
item_cmp a b = nat_cmp a.at b.at

item_cmp_total : IsTotalOrder item_cmp
item_cmp_total = on_total (λ (i : DispatcherChangeItem). i.at) nat_cmp_total

all_items : (x : DispatcherChangeItem) (ys : List DispatcherChangeItem) → AllByRecursion (λ y. eq_by_cmp at_cmp (item_of x) y ≡ false) (map item_of ys)
    → AllByRecursion (λ y. eq_by_cmp item_cmp x y ≡ false) ys
all_items x [] all = tt
all_items x (y ∷ ys) all = (all.0, all_items x ys all.1)

apart_items : (xs : List DispatcherChangeItem) → IsDistinct (eq_by_cmp at_cmp) (map item_of xs) → IsDistinct (eq_by_cmp item_cmp) xs
unfolding IsDistinct
apart_items [] all = tt
apart_items (x ∷ xs) all = (all_items x xs all.0, apart_items xs all.1)

-- from the clauses of a sort by a closure that answers by times: the items in order
pub sorted_items : {F : Type 0} {g : Mut F (Bor DispatcherChangeItem × (Bor DispatcherChangeItem × Unit {0})) Ordering} {f : F} (until : ℕ) (xs ys : List DispatcherChangeItem) → IsPermutation xs ys
    → ((lt : DispatcherChangeItem → DispatcherChangeItem → Bool) → IsStrictWeakOrder lt → ComparesAs g lt f → IsSortedBy lt ys)
    → ((a : Bor DispatcherChangeItem × (Bor DispatcherChangeItem × Unit {0})) (r : Ordering) (f' : F) → Called g f a r f' → (r ≡ item_cmp a.0.now a.1.0.now) × (f' ≡ f))
    → may_all_follow until [] (map item_of xs) ≡ true → map item_of ys ≡ in_order at_cmp (map item_of xs)
sorted_items until xs ys moved sorted answers may =
    ap (map item_of) (sort_by_is_in_order item_cmp item_cmp_total xs ys moved sorted answers (apart_items xs (apart until (map item_of xs) may)))
    ∙ in_order-map item_cmp at_cmp item_of (λ x y. refl) xs

-- ---- the whole

-- members say the reloads and restarts of one list
pub one_items : (mode : Mode) (until : ℕ) (members : Members) (xs ys : List ItemData) → AreItemsIn mode until members xs
    → AreItemsIn mode until members ys → xs ≡ ys
one_items mode until members xs ys is also =
    let reloads = one_or (IsListOrOne (DecodesToReload mode)) (one_list_or_one (DecodesToReload mode) (one_reload mode)) [] (get_member (codes "reload") members)
    is.reloads also.reloads is.reloads_are also.reloads_are in
    let restarts = one_or (IsListOrOne (DecodesToRestart mode)) (one_list_or_one (DecodesToRestart mode) (one_restart mode)) [] (get_member (codes "restart") members)
    is.restarts also.restarts is.restarts_are also.restarts_are in
    is.is ∙ (λ i. in_order at_cmp (reloads i ++ restarts i)) ∙ sym also.is
