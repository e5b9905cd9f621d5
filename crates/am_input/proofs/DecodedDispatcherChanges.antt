-- What items say of changes of the dispatcher, and under which configurations.
use Rattle.std.proofs.Common.{◌≡◌, ◌<◌, ◌++◌, ◌∙◌, ℕ, zero, suc, true, List, [], ◌∷◌, Option, Some, None, arith, codes, get_or, is_none, length, map, refl, subst, sym, take}
use Rattle.std.proofs.lemmas.Bool.{and_parts}
use Rattle.std.specs.List.{list_all}
use Rattle.std.specs.Option.{option_map_or, option_or}
use Rattle.std.specs.Prelude.{IsSomeAnd}
use Rattle.serde_json.specs.Data.{Data, Members}
use Rattle.serde_json.specs.Find.{as_object, get_member}
use Rattle.am_json.proofs.Once.{one_parts, one_there_with}
use Rattle.am_json.specs.Configured.{DecodesToConfig, config_compares_texts}
use Rattle.am_json.specs.Decoding.{Has, HasNone}
use Rattle.am_json.specs.declared.reader.Mode.{Mode}
use Rattle.am_config.specs.declared.hours.Hours.{Hours}
use Rattle.am_input.specs.Clocks.{AreClocksOf}
use Rattle.am_input.specs.Configured.{IsConfigIn, IsReadOfTheirs, DecodesPlainly}
use Rattle.am_input.specs.DispatcherChanges.{AreDispatcherChangesIn, AreDispatcherChangesWithoutRegexes, AreDecodedBy, IsConfigAt, DecodesAt, is_ours, last_reload}
use Rattle.am_model.specs.declared.config.Config.{Config}
use Rattle.am_plans.proofs.Decodings.{found_none}
use Rattle.am_plans.proofs.DispatcherChanges.{one_items}
use Rattle.am_plans.specs.DispatcherChange.{ItemData, item_of, reload_in}
use Rattle.am_plans.specs.declared.dispatcher_change.DispatcherChangeItem.{DispatcherChangeItem}
use Rattle.am_plans.specs.declared.dispatcher_change.Reload.{Reload}
use Rattle.am_terms.specs.declared.dispatcher_change.DispatcherChange.{DispatcherChange}

-- ---- the last reload

-- behind some items
abbrev pub reload_behind : Option Data → List ItemData → Option Data
reload_behind before [] = before
reload_behind before (x ∷ xs) = reload_behind (last_reload before x) xs

pub behind_one : (before : Option Data) (xs : List ItemData) (x : ItemData) → reload_behind before (xs ++ x ∷ []) ≡ last_reload (reload_behind before xs) x
behind_one before [] x = refl
behind_one before (y ∷ xs) x = behind_one (last_reload before y) xs x

-- where each is read
pub reload_or : (one other : Option Reload) → reload_in (option_or one other) ≡ option_or (reload_in one) (reload_in other)
reload_or None other = refl
reload_or (Some r) other = refl

-- one of our own, where each is
pub ours_last : (before : Option Data) (x : ItemData) → is_ours before ≡ true → is_ours x.reload ≡ true → is_ours (last_reload before x) ≡ true
ours_last before x mine own = by x.reload own
  where
    by : (o : Option Data) → is_ours o ≡ true → is_ours (last_reload before (record { at = x.at; carryover = x.carryover; reload = o })) ≡ true
    by None own = mine
    by (Some r) own = own

pub ours_at : (before : Option Data) (items : List DispatcherChangeItem) (i : ℕ) (x : DispatcherChangeItem) → i < length items → x ≡ get_or items i x → is_ours before ≡ true
    → list_all (λ (it : ItemData). is_ours it.reload) (map item_of items) ≡ true
    → is_ours (last_reload (reload_behind before (map item_of (take i items))) (item_of x)) ≡ true
ours_at before [] i x here is mine all = absurd (omega (arith, here))
ours_at before (y ∷ ys) zero x here is mine all =
    let parts = and_parts (is_ours (item_of y).reload) (list_all (λ (it : ItemData). is_ours it.reload) (map item_of ys)) all in
    subst (λ (z : DispatcherChangeItem). is_ours (last_reload before (item_of z)) ≡ true) (sym is) (ours_last before (item_of y) mine parts.0)
ours_at before (y ∷ ys) (suc i) x here is mine all =
    let parts = and_parts (is_ours (item_of y).reload) (list_all (λ (it : ItemData). is_ours it.reload) (map item_of ys)) all in
    ours_at (last_reload before (item_of y)) ys i x (omega (arith, here)) is (ours_last before (item_of y) mine parts.0) parts.1

-- ---- what is given

-- one more
pub decoded_more : (IsAt : Option Data → Config → Type 0) (before : Option Data) (xs : List ItemData) (hs : List DispatcherChange) (x : ItemData) (h : DispatcherChange)
    → AreDecodedBy IsAt before xs hs → h.at ≡ x.at → h.carryover ≡ x.carryover → IsAt (last_reload (reload_behind before xs) x) h.config
    → AreDecodedBy IsAt before (xs ++ x ∷ []) (hs ++ h ∷ [])
decoded_more IsAt before [] [] x h decoded at carryover config = (at, carryover, config, tt)
decoded_more IsAt before [] (k ∷ hs) x h decoded at carryover config = absurd decoded
decoded_more IsAt before (y ∷ xs) [] x h decoded at carryover config = absurd decoded
decoded_more IsAt before (y ∷ xs) (k ∷ hs) x h decoded at carryover config =
    (decoded.0, decoded.1, decoded.2, decoded_more IsAt (last_reload before y) xs hs x h decoded.3 at carryover config)

-- the change of the dispatcher of an item
pub decoded_at : (IsAt : Option Data → Config → Type 0) (before : Option Data) (items : List DispatcherChangeItem) (i : ℕ) (x : DispatcherChangeItem) (hs : List DispatcherChange)
    → i < length items → x ≡ get_or items i x → AreDecodedBy IsAt before (map item_of items) hs
    → list_all (λ (h : DispatcherChange). config_compares_texts h.config) hs ≡ true
    → (h : DispatcherChange) × IsAt (last_reload (reload_behind before (map item_of (take i items))) (item_of x)) h.config × (config_compares_texts h.config ≡ true)
decoded_at IsAt before [] i x hs here is decoded plain = absurd (omega (arith, here))
decoded_at IsAt before (y ∷ ys) i x [] here is decoded plain = absurd decoded
decoded_at IsAt before (y ∷ ys) zero x (h ∷ hs) here is decoded plain = (
  h,
  subst (λ (z : DispatcherChangeItem). IsAt (last_reload before (item_of z)) h.config) (sym is) decoded.2,
  (and_parts (config_compares_texts h.config) (list_all (λ (k : DispatcherChange). config_compares_texts k.config) hs) plain).0,
)
decoded_at IsAt before (y ∷ ys) (suc i) x (h ∷ hs) here is decoded plain =
    decoded_at IsAt (last_reload before (item_of y)) ys i x hs (omega (arith, here)) is decoded.3
    (and_parts (config_compares_texts h.config) (list_all (λ (k : DispatcherChange). config_compares_texts k.config) hs) plain).1

-- ---- configurations of our own

none_is : (o : Option Data) → is_none o ≡ true → o ≡ None
none_is None is = refl
none_is (Some v) is = absurd (cc)

own_in : (Clocks : Option Hours → Type 0) (mode : Mode) (members : Members) (config : Config) → get_member (codes "alertmanager") members ≡ None → IsConfigIn Clocks mode members config
    → Has (DecodesToConfig mode) (codes "config") members config
own_in Clocks mode members config none decoded =
    found_none (Has (DecodesToConfig mode) (codes "config") members config) (λ value. HasNone (codes "config") members × IsReadOfTheirs Clocks value config)
    (get_member (codes "alertmanager") members) (sym none) decoded

pub decodes_at : (Clocks : Option Hours → Type 0) (mode : Mode) (members : Members) (reload : Option Data) (config : Config) → get_member (codes "alertmanager") members ≡ None
    → is_ours reload ≡ true → IsConfigAt Clocks None mode members reload config → config_compares_texts config ≡ true → DecodesAt mode members reload config
decodes_at Clocks mode ms None config none mine decoded plain = (own_in Clocks mode ms config none decoded, plain)
decodes_at Clocks mode ms (Some reload) config none mine decoded plain = by (as_object reload) mine decoded
  where
    by : (o : Option Members) → option_map_or (λ fields. is_none (get_member (codes "alertmanager") fields)) o true ≡ true
        → IsSomeAnd o (λ fields. IsConfigIn Clocks mode fields config) → IsSomeAnd o (λ fields. DecodesPlainly mode fields config)
    by None mine decoded = decoded
    by (Some fields) mine decoded = (own_in Clocks mode fields config (none_is (get_member (codes "alertmanager") fields) mine) decoded, plain)

pub one_own : (mode : Mode) (members : Members) (c k : Config) → config_compares_texts c ≡ true → Has (DecodesToConfig mode) (codes "config") members c
    → Has (DecodesToConfig mode) (codes "config") members k → c ≡ k
one_own mode members c k plain is also =
    one_there_with config_compares_texts (DecodesToConfig mode) (λ value a b compares has had. one_parts mode value a b compares has.parts had.parts)
    (get_member (codes "config") members) c k plain is also

-- one is given at most that needs no regex
pub one_at : (Clocks : Option Hours → Type 0) (mode : Mode) (members : Members) (reload : Option Data) (c k : Config) → get_member (codes "alertmanager") members ≡ None
    → is_ours reload ≡ true → config_compares_texts c ≡ true → IsConfigAt Clocks None mode members reload c → IsConfigAt Clocks None mode members reload k → c ≡ k
one_at Clocks mode ms None c k none mine plain is also = one_own mode ms c k plain (own_in Clocks mode ms c none is) (own_in Clocks mode ms k none also)
one_at Clocks mode ms (Some reload) c k none mine plain is also = by (as_object reload) mine is also
  where
    by : (o : Option Members) → option_map_or (λ fields. is_none (get_member (codes "alertmanager") fields)) o true ≡ true
        → IsSomeAnd o (λ fields. IsConfigIn Clocks mode fields c) → IsSomeAnd o (λ fields. IsConfigIn Clocks mode fields k) → c ≡ k
    by None mine is also = absurd is
    by (Some fields) mine is also =
        let none = none_is (get_member (codes "alertmanager") fields) mine in
        one_own mode fields c k plain (own_in Clocks mode fields c none is) (own_in Clocks mode fields k none also)

-- ---- one list of changes of the dispatcher

one_decoded : (Clocks : Option Hours → Type 0) (mode : Mode) (members : Members) (before : Option Data) (items : List ItemData) (hs ks : List DispatcherChange)
    → get_member (codes "alertmanager") members ≡ None → is_ours before ≡ true → list_all (λ (i : ItemData). is_ours i.reload) items ≡ true
    → list_all (λ (h : DispatcherChange). config_compares_texts h.config) hs ≡ true
    → AreDecodedBy (IsConfigAt Clocks None mode members) before items hs → AreDecodedBy (IsConfigAt Clocks None mode members) before items ks → hs ≡ ks
one_decoded Clocks mode ms before [] [] [] none mine ours plain is also = refl
one_decoded Clocks mode ms before [] [] (k ∷ ks) none mine ours plain is also = absurd also
one_decoded Clocks mode ms before [] (h ∷ hs) ks none mine ours plain is also = absurd is
one_decoded Clocks mode ms before (x ∷ xs) [] ks none mine ours plain is also = absurd is
one_decoded Clocks mode ms before (x ∷ xs) (h ∷ hs) [] none mine ours plain is also = absurd also
one_decoded Clocks mode ms before (x ∷ xs) (h ∷ hs) (k ∷ ks) none mine ours plain is also =
    let plains = and_parts (config_compares_texts h.config) (list_all (λ (d : DispatcherChange). config_compares_texts d.config) hs) plain in
    let parts = and_parts (is_ours x.reload) (list_all (λ (i : ItemData). is_ours i.reload) xs) ours in
    let own = ours_last before x mine parts.0 in
    let at : h.at ≡ k.at = is.0 ∙ sym also.0 in
    let carryover : h.carryover ≡ k.carryover = is.1 ∙ sym also.1 in
    let config : h.config ≡ k.config = one_at Clocks mode ms (last_reload before x) h.config k.config none own plains.0 is.2 also.2 in
    let rest = one_decoded Clocks mode ms (last_reload before x) xs hs ks none own parts.1 plains.1 is.3 also.3 in
    λ i. record { at = at i; config = config i; carryover = carryover i } ∷ rest i

-- what is given of a list that has no reload of Alertmanager's configuration is the one list that is given
pub one_list : (mode : Mode) (file : Option Data) (until : ℕ) (members : Members) (hs ks : List DispatcherChange) → file ≡ None
    → get_member (codes "alertmanager") members ≡ None → AreDispatcherChangesWithoutRegexes mode file until members hs → AreDispatcherChangesIn mode file until members ks
    → hs ≡ ks
one_list mode file until members hs ks own none decoded read =
    let same = one_items mode until members decoded.decoded.items read.items decoded.decoded.items_are read.items_are in
    let Clocks = AreClocksOf until members in
    let Of = λ (f : Option Data) (items : List ItemData) (l : List DispatcherChange). AreDecodedBy (IsConfigAt Clocks f mode members) None items l in
    one_decoded Clocks mode members None read.items hs ks none refl
    (subst (λ (items : List ItemData). list_all (λ (i : ItemData). is_ours i.reload) items ≡ true) same decoded.ours) decoded.plain
    (subst (λ (f : Option Data). Of f read.items hs) own (subst (λ (items : List ItemData). Of file items hs) same decoded.decoded.are))
    (subst (λ (f : Option Data). Of f read.items ks) own read.are)

-- ---- none

none_by : (IsAt IsAlso : Option Data → Config → Type 0) (before : Option Data) (items : List ItemData) (hs : List DispatcherChange) → AreDecodedBy IsAt before items []
    → AreDecodedBy IsAlso before items hs → hs ≡ []
none_by IsAt IsAlso before [] [] is also = refl
none_by IsAt IsAlso before [] (h ∷ hs) is also = absurd also
none_by IsAt IsAlso before (x ∷ xs) hs is also = absurd is

-- members that say no changes of the dispatcher say no others
pub none_decoded : (mode : Mode) (file : Option Data) (until : ℕ) (members : Members) (hs : List DispatcherChange) → AreDispatcherChangesIn mode file until members []
    → AreDispatcherChangesIn mode file until members hs → hs ≡ []
none_decoded mode file until members hs is also =
    let IsAt = IsConfigAt (AreClocksOf until members) file mode members in
    let same = one_items mode until members is.items also.items is.items_are also.items_are in
    none_by IsAt IsAt None also.items hs (subst (λ (items : List ItemData). AreDecodedBy IsAt None items []) same is.are) also.are
