-- A JSON value says one matcher, one rule, one configuration at most.
use Rattle.std.proofs.Common.{◌≡◌, ◌∙◌, ℕ, Bool, true, false, List, [], ◌∷◌, Option, Some, None, MatchOption, Bor, codes, is_some, refl, sym, ap, subst}
use Rattle.std.specs.List.{list_all, list_any}
use Rattle.std.specs.Str.{bytes_eq}
use Rattle.serde_json.specs.Data.{Data, Items, no_items, item, string, Members}
use Rattle.serde_json.specs.Find.{as_array, as_bool, as_object, as_str, get_member}
use Rattle.am_alerts.specs.Labels.{labels_in}
use Rattle.am_alerts.specs.RoutingTree.{tree_of}
use Rattle.am_alerts.specs.declared.matcher.MatcherParts.{MatcherParts}
use Rattle.am_alerts.specs.declared.route.Child.{Child}
use Rattle.am_alerts.specs.declared.route.GroupBy.TheVariants.{All, Names}
use Rattle.am_alerts.specs.declared.route.Route.{Route}
use Rattle.am_model.specs.declared.config.Config.{Config}
use Rattle.am_model.specs.declared.config.Integration.{Integration}
use Rattle.am_model.specs.declared.config.Limits.{Limits}
use Rattle.am_model.specs.declared.config.Receiver.{Receiver}
use Rattle.am_mute.specs.Inhibit.{RuleData}
use Rattle.am_json.specs.Configured.{DecodesToPairs, DecodesToMatcher, DecodesToOptions, IsGroupBy, IsMatcher, IsMatcherIn, IsPair, IsWritten, all_labels, text_members}
use Rattle.am_json.specs.Configured.{DecodesToChild, DecodesToIntegration, DecodesToLimits, DecodesToReceiver, DecodesToRoot, DecodesToRule}
use Rattle.am_json.specs.Configured.{HasChild, HasIntegration, HasLimits, HasParts, HasReceiver, HasRoot, HasRule, config_compares_texts, limits_in, rule_compares_texts}
use Rattle.am_json.specs.Decoding.{DecodeEach, HasOr, IsDuration, IsFlag, IsInterval, IsList, IsNumber, IsObject, IsText}
use Rattle.am_alerts.specs.Matcher.{compare_texts, compares_texts, operator_text}
use Rattle.am_json.specs.MatcherText.{IsMatcherText}
use Rattle.am_json.specs.Read.{duration_in, interval_in, number_in}
use Rattle.am_json.specs.declared.reader.Mode.{Mode}
use Rattle.am_json.specs.declared.reader.Mode.TheVariants.{Lenient, Strict}
use Rattle.am_json.proofs.Configured.{plain_children, plain_rules}
use Rattle.am_json.proofs.MatcherTexts.{one_op, one_text}
use Rattle.am_json.proofs.Members.{first, second}
use Rattle.am_json.proofs.Translations.{one_translated}

-- a JSON value says one at most
abbrev pub IsOne : {X : Type 0} → (Data → X → Type 0) → Type 0
IsOne {X = X} decodes = (value : Data) (x y : X) → decodes value x → decodes value y → x ≡ y

pub one_read : {X : Type 0} (reading : Data → Option X) → IsOne (λ value x. reading value ≡ Some x)
one_read reading value x y is also = cc

pub one_each : {X : Type 0} (decodes : Data → X → Type 0) → IsOne decodes → (items : Items) (xs ys : List X) → DecodeEach decodes items xs → DecodeEach decodes items ys → xs ≡ ys
one_each decodes one no_items [] [] is also = refl
one_each decodes one no_items [] (y ∷ ys) is also = absurd also
one_each decodes one no_items (x ∷ xs) ys is also = absurd is
one_each decodes one (item v vs) [] ys is also = absurd is
one_each decodes one (item v vs) (x ∷ xs) [] is also = absurd also
one_each decodes one (item v vs) (x ∷ xs) (y ∷ ys) is also =
    let same = one v x y is.0 also.0 in
    let rest = one_each decodes one vs xs ys is.1 also.1 in
    λ i. same i ∷ rest i

-- what is there, and must be
pub one_there : {A X : Type 0} (decodes : A → X → Type 0) → ((a : A) (x y : X) → decodes a x → decodes a y → x ≡ y) → (found : Option A) (x y : X)
    → MatchOption found ⊥ (λ a. decodes a x) → MatchOption found ⊥ (λ a. decodes a y) → x ≡ y
one_there decodes one None x y is also = absurd is
one_there decodes one (Some a) x y is also = one a x y is also

-- what is there, or what represents it
pub one_or : {X : Type 0} (decodes : Data → X → Type 0) → IsOne decodes → (absent : X) (found : Option Data) (x y : X)
    → MatchOption found (x ≡ absent) (λ value. decodes value x) → MatchOption found (y ≡ absent) (λ value. decodes value y) → x ≡ y
one_or decodes one absent None x y is also = is ∙ sym also
one_or decodes one absent (Some value) x y is also = one value x y is also

pub one_list : {X : Type 0} (decodes : Data → X → Type 0) → IsOne decodes → IsOne (IsList decodes)
one_list decodes one value xs ys is also = one_there (DecodeEach decodes) (one_each decodes one) (as_array value) xs ys is also

-- a JSON value says one at most that has a property
abbrev pub IsOneWith : {X : Type 0} → (X → Bool) → (Data → X → Type 0) → Type 0
IsOneWith {X = X} has decodes = (value : Data) (x y : X) → has x ≡ true → decodes value x → decodes value y → x ≡ y

pub one_each_with : {X : Type 0} (has : X → Bool) (decodes : Data → X → Type 0) → IsOneWith has decodes → (items : Items) (xs ys : List X)
    → list_all has xs ≡ true → DecodeEach decodes items xs → DecodeEach decodes items ys → xs ≡ ys
one_each_with has decodes one no_items [] [] all is also = refl
one_each_with has decodes one no_items [] (y ∷ ys) all is also = absurd also
one_each_with has decodes one no_items (x ∷ xs) ys all is also = absurd is
one_each_with has decodes one (item v vs) [] ys all is also = absurd is
one_each_with has decodes one (item v vs) (x ∷ xs) [] all is also = absurd also
one_each_with has decodes one (item v vs) (x ∷ xs) (y ∷ ys) all is also =
    let same = one v x y (first (has x) (list_all has xs) all) is.0 also.0 in
    let rest = one_each_with has decodes one vs xs ys (second (has x) (list_all has xs) all) is.1 also.1 in
    λ i. same i ∷ rest i

-- the same of what is there, and must be
pub one_there_with : {A X : Type 0} (has : X → Bool) (decodes : A → X → Type 0)
    → ((a : A) (x y : X) → has x ≡ true → decodes a x → decodes a y → x ≡ y) → (found : Option A) (x y : X) → has x ≡ true
    → MatchOption found ⊥ (λ a. decodes a x) → MatchOption found ⊥ (λ a. decodes a y) → x ≡ y
one_there_with has decodes one None x y all is also = absurd is
one_there_with has decodes one (Some a) x y all is also = one a x y all is also

-- the same of what is there, or what represents it
pub one_or_with : {X : Type 0} (has : X → Bool) (decodes : Data → X → Type 0) → IsOneWith has decodes → (absent : X) (found : Option Data) (x y : X)
    → has x ≡ true → MatchOption found (x ≡ absent) (λ value. decodes value x) → MatchOption found (y ≡ absent) (λ value. decodes value y) → x ≡ y
one_or_with has decodes one absent None x y all is also = is ∙ sym also
one_or_with has decodes one absent (Some value) x y all is also = one value x y all is also

pub one_list_with : {X : Type 0} (has : X → Bool) (decodes : Data → X → Type 0) → IsOneWith has decodes → IsOneWith (list_all has) (IsList decodes)
one_list_with has decodes one value xs ys all is also =
    one_there_with (list_all has) (DecodeEach decodes) (one_each_with has decodes one) (as_array value) xs ys all is also

pub one_object_with : {X : Type 0} (P : X → Bool) (has : Members → X → Type 0)
    → ((members : Members) (x y : X) → P x ≡ true → has members x → has members y → x ≡ y) → IsOneWith P (IsObject has)
one_object_with P has one value x y all is also = one_there_with P has one (as_object value) x y all is also

pub one_object : {X : Type 0} (has : Members → X → Type 0) → ((members : Members) (x y : X) → has members x → has members y → x ≡ y) → IsOne (IsObject has)
one_object has one value x y is also = one_there has one (as_object value) x y is also

-- ---- labels

one_label : (v : Data) (p q : Bor (List ℕ) × Bor (List ℕ)) → IsPair v p → IsPair v q → (p.0.now ≡ q.0.now) × (p.1.now ≡ q.1.now)
one_label v p q is also =
    let same : Some (item (string p.0.now) (item (string p.1.now) no_items)) ≡ Some (item (string q.0.now) (item (string q.1.now) no_items)) = sym is ∙ also in
    ((cc), (cc))

one_more : (p q : Bor (List ℕ) × Bor (List ℕ)) (ps qs : List (Bor (List ℕ) × Bor (List ℕ))) → p.0.now ≡ q.0.now → p.1.now ≡ q.1.now
    → labels_in ps ≡ labels_in qs → labels_in (p ∷ ps) ≡ labels_in (q ∷ qs)
one_more p q ps qs name value rest = λ i. record { name = name i; value = value i } ∷ rest i

one_items : (items : Items) (ps qs : List (Bor (List ℕ) × Bor (List ℕ))) → DecodeEach IsPair items ps → DecodeEach IsPair items qs → labels_in ps ≡ labels_in qs
one_items no_items [] [] is also = refl
one_items no_items [] (q ∷ qs) is also = absurd also
one_items no_items (p ∷ ps) qs is also = absurd is
one_items (item v vs) [] qs is also = absurd is
one_items (item v vs) (p ∷ ps) [] is also = absurd also
one_items (item v vs) (p ∷ ps) (q ∷ qs) is also =
    let same = one_label v p q is.0 also.0 in
    one_more p q ps qs same.0 same.1 (one_items vs ps qs is.1 also.1)

-- the same of an array
pub one_array : (found : Option Items) (ps qs : List (Bor (List ℕ) × Bor (List ℕ))) → MatchOption found ⊥ (λ items. DecodeEach IsPair items ps)
    → MatchOption found ⊥ (λ items. DecodeEach IsPair items qs) → labels_in ps ≡ labels_in qs
one_array None ps qs is also = absurd is
one_array (Some items) ps qs is also = one_items items ps qs is also

one_members : (ps qs : List (Bor (List ℕ) × Bor (List ℕ))) → text_members ps ≡ text_members qs → labels_in ps ≡ labels_in qs
one_members [] [] is = refl
one_members [] (q ∷ qs) is = absurd (cc)
one_members (p ∷ ps) [] is = absurd (cc)
one_members (p ∷ ps) (q ∷ qs) is = one_more p q ps qs (cc) (cc) (one_members ps qs (cc))

-- the pairs that a value says are those of one list of labels
pub one_pairs : (mode : Mode) (value : Data) (ps qs : List (Bor (List ℕ) × Bor (List ℕ))) → DecodesToPairs mode value ps → DecodesToPairs mode value qs
    → labels_in ps ≡ labels_in qs
one_pairs Lenient value ps qs is also = one_array (as_array value) ps qs is.0 also.0
one_pairs Strict value ps qs is also = by (as_object value) is also
  where
    by : (o : Option Members) → MatchOption o (MatchOption (as_array value) ⊥ (λ items. DecodeEach IsPair items ps)) (λ members. members ≡ text_members ps)
        → MatchOption o (MatchOption (as_array value) ⊥ (λ items. DecodeEach IsPair items qs)) (λ members. members ≡ text_members qs)
        → labels_in ps ≡ labels_in qs
    by None is also = one_array (as_array value) ps qs is also
    by (Some ms) is also = one_members ps qs (sym is ∙ also)

-- in the strict mode the members of an object are pairs
pub object_pairs : (value : Data) (members : Members) (ps : List (Bor (List ℕ) × Bor (List ℕ))) → Some members ≡ as_object value
    → DecodesToPairs Strict value ps → members ≡ text_members ps
object_pairs value ms ps is decoded =
    subst (λ (o : Option Members). MatchOption o (IsList IsPair value ps) (λ ms. ms ≡ text_members ps)) (sym is) decoded

-- what is no object is an array of pairs
pub array_pairs : (value : Data) (ps : List (Bor (List ℕ) × Bor (List ℕ))) → is_some (as_object value) ≡ false → DecodesToPairs Strict value ps
    → IsList IsPair value ps
array_pairs value ps other decoded = by (as_object value) other decoded
  where
    by : (o : Option Members) → is_some o ≡ false → MatchOption o (IsList IsPair value ps) (λ ms. ms ≡ text_members ps) → IsList IsPair value ps
    by None other decoded = decoded
    by (Some ms) other decoded = absurd (cc)

-- an object that is none
pub no_object : (value : Data) → None ≡ as_object value → is_some (as_object value) ≡ true → ⊥
no_object value none some = absurd (cc (ap is_some none))

-- ---- matchers

pub one_three : IsOne IsMatcher
one_three value m n is also =
    let same : Some (item (string m.name) (item (string (operator_text m.op)) (item (string m.value) no_items)))
    ≡ Some (item (string n.name) (item (string (operator_text n.op)) (item (string n.value) no_items))) = sym is ∙ also in
    let name : m.name ≡ n.name = cc in
    let op : m.op ≡ n.op = one_op m.op n.op (cc) in
    let text : m.value ≡ n.value = cc in
    λ i. record { name = name i; op = op i; value = text i }

-- the second of a matcher's texts is its operator's
pub same_operator : (m : MatcherParts) (name operator value : List ℕ)
    → Some (item (string m.name) (item (string (operator_text m.op)) (item (string m.value) no_items)))
    ≡ Some (item (string name) (item (string operator) (item (string value) no_items))) → operator_text m.op ≡ operator
same_operator m name operator value is = cc

-- the matcher of three texts
pub written_so : (found : Option Items) (name operator value : List ℕ) (parts : MatcherParts)
    → found ≡ Some (item (string name) (item (string operator) (item (string value) no_items))) → parts.name ≡ name
    → operator_text parts.op ≡ operator → parts.value ≡ value
    → found ≡ Some (item (string parts.name) (item (string (operator_text parts.op)) (item (string parts.value) no_items)))
written_so found name operator value parts is same_name same_op same_value = cc

pub one_written : IsOne IsWritten
one_written value m n is also = by (as_str value) is also
  where
    by : (o : Option (List ℕ)) → MatchOption o (IsMatcher value m) (λ text. IsMatcherText text m) → MatchOption o (IsMatcher value n) (λ text. IsMatcherText text n) → m ≡ n
    by None is also = one_three value m n is also
    by (Some text) is also = one_text text m n is also

one_matcher_in : (mode : Mode) → IsOneWith compares_texts (IsMatcherIn mode)
one_matcher_in Lenient value m n compares is also = one_three value m n is.0 also.0
one_matcher_in Strict value m n compares is also = one_translated (IsWritten value) (one_written value) m n compares is also

pub one_matcher : (mode : Mode) → IsOneWith compares_texts (DecodesToMatcher mode)
one_matcher mode value m n compares is also = one_matcher_in mode value m n compares is.written also.written

-- a list of matchers that compare texts
pub one_matcher_list : (mode : Mode) → IsOneWith compare_texts (IsList (DecodesToMatcher mode))
one_matcher_list mode = one_list_with compares_texts (DecodesToMatcher mode) (one_matcher mode)

pub one_matchers : (mode : Mode) (found : Option Data) (ms ns : List MatcherParts) → compare_texts ms ≡ true
    → MatchOption found (ms ≡ []) (λ value. IsList (DecodesToMatcher mode) value ms)
    → MatchOption found (ns ≡ []) (λ value. IsList (DecodesToMatcher mode) value ns) → ms ≡ ns
one_matchers mode found ms ns compare is also =
    one_or_with compare_texts (IsList (DecodesToMatcher mode)) (one_matcher_list mode) [] found ms ns compare is also

-- ---- texts and rules

pub one_text_of : IsOne IsText
one_text_of = one_read as_str

one_rule_of : (mode : Mode) (members : Members) (r s : RuleData) → rule_compares_texts r ≡ true → HasRule mode members r → HasRule mode members s → r ≡ s
one_rule_of mode members r s compares is also =
    let source = one_matchers mode (get_member (codes "source") members) r.source s.source (first (compare_texts r.source) (compare_texts r.target) compares)
    is.source also.source in
    let target = one_matchers mode (get_member (codes "target") members) r.target s.target (second (compare_texts r.source) (compare_texts r.target) compares)
    is.target also.target in
    let equal = one_or (IsList IsText) (one_list IsText one_text_of) [] (get_member (codes "equal") members) r.equal s.equal is.equal also.equal in
    λ i. record { source = source i; target = target i; equal = equal i }

pub one_rule : (mode : Mode) → IsOneWith rule_compares_texts (DecodesToRule mode)
one_rule mode = one_object_with rule_compares_texts (HasRule mode) (one_rule_of mode)

-- ---- routes

all_named : (names : List (List ℕ)) → DecodeEach IsText (item (string all_labels) no_items) names → list_any (λ name. bytes_eq name all_labels) names ≡ true
all_named [] each = absurd each
all_named (n ∷ []) each =
    let same : n ≡ all_labels = cc in
    ap (λ (t : List ℕ). list_any (λ name. bytes_eq name all_labels) (t ∷ [])) same
all_named (n ∷ m ∷ ns) each = absurd each.1

-- names that are given next to all labels alone
pub all_or_names : (value : Data) (names : List (List ℕ)) → as_array value ≡ Some (item (string all_labels) no_items) → IsList IsText value names
    → list_any (λ name. bytes_eq name all_labels) names ≡ true
all_or_names value names is decoded =
    all_named names (subst (λ (o : Option Items). MatchOption o ⊥ (λ items. DecodeEach IsText items names)) is decoded)

pub one_group_by : IsOne IsGroupBy
one_group_by value All All is also = refl
one_group_by value All (Names names) is also = absurd (cc (all_or_names value names is also.0, also.1))
one_group_by value (Names names) All is also = absurd (cc (all_or_names value names also is.0, is.1))
one_group_by value (Names names) (Names others) is also = ap Names (one_list IsText one_text_of value names others is.0 also.0)

-- routes of one name with these options
pub one_options : (members : Members) (r s : Route) → r.name ≡ s.name → DecodesToOptions members r → DecodesToOptions members s → r ≡ s
one_options members r s name is also =
    let receiver = one_there IsText one_text_of (get_member (codes "receiver") members) r.receiver s.receiver is.receiver also.receiver in
    let group_by = one_or IsGroupBy one_group_by (Names []) (get_member (codes "group_by") members) r.group_by s.group_by is.group_by also.group_by in
    let wait = one_or IsDuration (one_read duration_in) 30000 (get_member (codes "group_wait") members) r.group_wait s.group_wait is.group_wait also.group_wait in
    let interval = one_or IsInterval (one_read interval_in) 300000 (get_member (codes "group_interval") members) r.group_interval s.group_interval is.group_interval also.group_interval in
    let repeat = one_or IsInterval (one_read interval_in) 14400000 (get_member (codes "repeat_interval") members) r.repeat_interval s.repeat_interval is.repeat_interval also.repeat_interval in
    λ i. record { name = name i; receiver = receiver i; group_by = group_by i; group_wait = wait i; group_interval = interval i; repeat_interval = repeat i }

one_root_of : (mode : Mode) (members : Members) (r s : Route) → HasRoot mode members r → HasRoot mode members s → r ≡ s
one_root_of mode members r s is also =
    one_options members r s (is.name ∙ sym also.name) is.options also.options

pub one_root : (mode : Mode) → IsOne (DecodesToRoot mode)
one_root mode = one_object (HasRoot mode) (one_root_of mode)

-- whether no matcher of a child needs a regex
abbrev pub child_compares_texts : Child → Bool
child_compares_texts child = compare_texts child.matchers

one_child_of : (mode : Mode) (members : Members) (c d : Child) → child_compares_texts c ≡ true → HasChild mode members c → HasChild mode members d → c ≡ d
one_child_of mode members c d compares is also =
    let name = one_there IsText one_text_of (get_member (codes "name") members) c.route.name d.route.name is.name also.name in
    let route = one_options members c.route d.route name is.options also.options in
    let matchers = one_matchers mode (get_member (codes "matchers") members) c.matchers d.matchers compares is.matchers also.matchers in
    let continues = one_or IsFlag (one_read as_bool) false (get_member (codes "continue") members) c.continues d.continues is.continues also.continues in
    λ i. record { route = route i; matchers = matchers i; continues = continues i }

pub one_child : (mode : Mode) → IsOneWith child_compares_texts (DecodesToChild mode)
one_child mode = one_object_with child_compares_texts (HasChild mode) (one_child_of mode)

-- children whose matchers compare texts
pub one_children : (mode : Mode) (members : Members) (cs ds : List Child) → list_all child_compares_texts cs ≡ true
    → HasOr (IsList (DecodesToChild mode)) [] (codes "children") members cs → HasOr (IsList (DecodesToChild mode)) [] (codes "children") members ds → cs ≡ ds
one_children mode members cs ds compare is also =
    one_or_with (list_all child_compares_texts) (IsList (DecodesToChild mode)) (one_list_with child_compares_texts (DecodesToChild mode) (one_child mode)) []
    (get_member (codes "children") members) cs ds compare is also

-- ---- receivers, limits and the whole

one_integration_of : (mode : Mode) (members : Members) (m n : Integration) → HasIntegration mode members m → HasIntegration mode members n → m ≡ n
one_integration_of mode members m n is also =
    let kind = one_there IsText one_text_of (get_member (codes "kind") members) m.kind n.kind is.kind also.kind in
    let resolved = one_or IsFlag (one_read as_bool) true (get_member (codes "send_resolved") members) m.send_resolved n.send_resolved is.send_resolved also.send_resolved in
    λ i. record { kind = kind i; send_resolved = resolved i }

pub one_integration : (mode : Mode) → IsOne (DecodesToIntegration mode)
one_integration mode = one_object (HasIntegration mode) (one_integration_of mode)

one_receiver_of : (mode : Mode) (members : Members) (r s : Receiver) → HasReceiver mode members r → HasReceiver mode members s → r ≡ s
one_receiver_of mode members r s is also =
    let name = one_there IsText one_text_of (get_member (codes "name") members) r.name s.name is.name also.name in
    let integrations = one_there (IsList (DecodesToIntegration mode)) (one_list (DecodesToIntegration mode) (one_integration mode)) (get_member (codes "integrations") members)
    r.integrations s.integrations is.integrations also.integrations in
    λ i. record { name = name i; integrations = integrations i }

pub one_receiver : (mode : Mode) → IsOne (DecodesToReceiver mode)
one_receiver mode = one_object (HasReceiver mode) (one_receiver_of mode)

one_limits_of : (mode : Mode) (members : Members) (l m : Limits) → HasLimits mode members l → HasLimits mode members m → l ≡ m
one_limits_of mode members l m is also =
    let alerts = one_or IsNumber (one_read number_in) (limits_in mode).alerts (get_member (codes "names") members) l.alerts m.alerts is.alerts also.alerts in
    let groups = one_or IsNumber (one_read number_in) (limits_in mode).groups (get_member (codes "groups") members) l.groups m.groups is.groups also.groups in
    let silences = one_or IsNumber (one_read number_in) (limits_in mode).silences (get_member (codes "silences") members) l.silences m.silences is.silences also.silences in
    let flushes = one_or IsNumber (one_read number_in) (limits_in mode).flushes (get_member (codes "flushes") members) l.flushes m.flushes is.flushes also.flushes in
    let history = one_or IsNumber (one_read number_in) (limits_in mode).history (get_member (codes "history") members) l.history m.history is.history also.history in
    λ i. record { alerts = alerts i; groups = groups i; silences = silences i; flushes = flushes i; history = history i }

pub one_limits : (mode : Mode) → IsOne (DecodesToLimits mode)
one_limits mode = one_object (HasLimits mode) (one_limits_of mode)

one_parts_of : (mode : Mode) (members : Members) (c d : Config) → config_compares_texts c ≡ true → HasParts mode members c → HasParts mode members d → c ≡ d
one_parts_of mode members c d compares is also =
    let retention = one_or IsDuration (one_read duration_in) 432000000 (get_member (codes "retention") members) c.retention d.retention is.retention also.retention in
    let limits = one_or (DecodesToLimits mode) (one_limits mode) (limits_in mode) (get_member (codes "limits") members) c.limits d.limits is.limits also.limits in
    let receivers = one_there (IsList (DecodesToReceiver mode)) (one_list (DecodesToReceiver mode) (one_receiver mode)) (get_member (codes "receivers") members)
    c.receivers d.receivers is.receivers also.receivers in
    let root = one_there (DecodesToRoot mode) (one_root mode) (get_member (codes "route") members) c.routes.root d.routes.root is.root also.root in
    let children = one_children mode members is.children also.children (plain_children c is.children is.tree compares) is.listed also.listed in
    let routes : c.routes ≡ d.routes = is.tree ∙ (λ i. tree_of (root i) (children i)) ∙ sym also.tree in
    let rules = one_or_with (list_all rule_compares_texts) (IsList (DecodesToRule mode)) (one_list_with rule_compares_texts (DecodesToRule mode) (one_rule mode)) []
    (get_member (codes "inhibit") members) c.rules d.rules (plain_rules c compares) is.rules also.rules in
    λ i. record { routes = routes i; receivers = receivers i; rules = rules i; retention = retention i; limits = limits i }

pub one_parts : (mode : Mode) → IsOneWith config_compares_texts (IsObject (HasParts mode))
one_parts mode = one_object_with config_compares_texts (HasParts mode) (one_parts_of mode)
