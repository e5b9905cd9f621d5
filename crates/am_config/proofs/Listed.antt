-- Definitions and the routes that list them, one more at a time.
use Rattle.std.proofs.Common.{◌≡◌, ◌+◌, ◌-◌, ◌<◌, ◌≤◌, ◌&&◌, ◌||◌, ◌++◌, ◌∷◌, ◌∙◌, ℕ, suc, zero, Bool, Bor, true, false, List, [], Option, Some, None, MatchOption, length, map, find, take, drop, get_or, ap, refl, subst, sym, cond, append_assoc, leb, nat_eq, arith}
use Rattle.std.proofs.lemmas.Bool.Decides.{nat_tests}
use Rattle.std.proofs.lemmas.Option.{slice_get_past, slice_get_read}
use Rattle.std.proofs.lemmas.List.{append-nil, map-append, take_all, take_more}
use Rattle.std.proofs.lemmas.List.Folds.{find-append}
use Rattle.std.proofs.Math.Seq.{drop-append_seam, take-append_seam}
use Rattle.std.specs.Cmp.Lexicographic.{pointwise}
use Rattle.std.specs.Global.{Global}
use Rattle.std.specs.List.{list_any}
use Rattle.std.specs.Option.{option_copied, option_or}
use Rattle.std.specs.Prelude.{IfSome, IsSomeAnd, Vec, is_some, nat_lt, slice_get}
use Rattle.std.specs.Str.{bytes_eq}
use Rattle.serde_json.specs.Data.{Data, Items, no_items, item}
use Rattle.serde_json.specs.Find.{as_array}
use Rattle.serde_json.specs.View.{items_view, view}
use Rattle.serde_json.specs.declared.value.Value.{Value}
use Rattle.am_alerts.specs.Labels.{has_text_twice}
use Rattle.am_alerts.specs.Spans.{is_muted}
use Rattle.am_alerts.specs.declared.spans.Span.{Span}
use Rattle.am_json.proofs.Members.{decode_more}
use Rattle.am_json.specs.Decoding.{DecodeEach, IsList, IsObject}
use Rattle.am_hours.specs.Muting.{is_muted_by_time}
use Rattle.am_config.proofs.Grouped.{once_more}
use Rattle.am_config.proofs.Timed.{and_false, same_text}
use Rattle.am_config.specs.Collects.{Adds}
use Rattle.am_config.specs.Times.{HasDefinition, IsFoundAt, IsIndexOf, IsListed, MutedAt, MutedWhen, TimesData, active_in, lists_key, mute_in, named_among, spans_at, spans_before}
use Rattle.am_config.specs.declared.definitions.NamedSpans.{NamedSpans}
use Rattle.am_config.specs.declared.hours.Hours.{Hours}

-- ---- the index of a name

get_front : {X : Type 0} (xs ys : List X) (i : ℕ) (x : X) → slice_get xs i ≡ Some x → slice_get (xs ++ ys) i ≡ Some x
get_front [] ys i x is = absurd (cc)
get_front (y ∷ xs) ys zero x is = is
get_front (y ∷ xs) ys (suc i) x is = get_front xs ys i x is

get_last : {X : Type 0} (xs : List X) (x : X) → slice_get (xs ++ x ∷ []) (length xs) ≡ Some x
get_last [] x = refl
get_last (y ∷ xs) x = get_last xs x

-- a definition that hasn't a name comes behind
still_found : (named : List NamedSpans) (d : NamedSpans) (name : List ℕ) (o : Option ℕ) → bytes_eq d.name name ≡ false → IsFoundAt named name o
    → IsFoundAt (named ++ d ∷ []) name o
still_found named d name None other found =
    find-append (λ (x : NamedSpans). bytes_eq x.name name) named (d ∷ [])
    ∙ ap (λ o. option_or o (cond (bytes_eq d.name name) (Some d) None)) found
    ∙ ap (λ b. cond b (Some d) None) other
still_found named d name (Some i) other found = (
  found.0,
  get_front named (d ∷ []) i found.0 found.1,
  find-append (λ (x : NamedSpans). bytes_eq x.name name) named (d ∷ []) ∙ ap (λ o. option_or o (cond (bytes_eq d.name name) (Some d) None)) found.2,
)

-- one that has it
found_last : (named : List NamedSpans) (d : NamedSpans) (name : List ℕ) → bytes_eq d.name name ≡ true → named_among d.name named ≡ None
    → IsFoundAt (named ++ d ∷ []) name (Some (length named))
found_last named d name same none = (
  d,
  get_last named d,
  find-append (λ (x : NamedSpans). bytes_eq x.name name) named (d ∷ [])
      ∙ ap (λ o. option_or o (cond (bytes_eq d.name name) (Some d) None))
      (ap (λ n. named_among n named) (sym (same_text d.name name same)) ∙ none)
      ∙ ap (λ b. cond b (Some d) None) same,
)

-- one more definition, of a new name
pub found_more : (named : List NamedSpans) (d : NamedSpans) (was now : List ℕ → Option ℕ) → named_among d.name named ≡ None
    → ((name : List ℕ) → IsFoundAt named name (was name))
    → ((name : List ℕ) → now name ≡ cond (bytes_eq d.name name) (Some (length named)) (was name)) → (name : List ℕ)
    → IsFoundAt (named ++ d ∷ []) name (now name)
found_more named d was now none found put name =
    subst (λ o. IsFoundAt (named ++ d ∷ []) name o) (sym (put name))
    (elim (bytes_eq d.name name) as (λ b. bytes_eq d.name name ≡ b → IsFoundAt (named ++ d ∷ []) name (cond b (Some (length named)) (was name))) [
      | true ↦ λ same. found_last named d name same none
      | false ↦ λ other. still_found named d name (was name) other (found name)
    ] refl)

not_among : (named : List NamedSpans) (name : List ℕ) → named_among name named ≡ None
    → list_any (λ known. bytes_eq known name) (map (λ (d : NamedSpans). d.name) named) ≡ false
not_among [] name none = refl
not_among (d ∷ ds) name none =
    elim (bytes_eq d.name name) as (λ b. cond b (Some d) (named_among name ds) ≡ None
    → (b || list_any (λ known. bytes_eq known name) (map (λ (x : NamedSpans). x.name) ds)) ≡ false) [
      | true ↦ λ is. absurd (cc)
      | false ↦ λ is. not_among ds name is
    ] none

-- each name is still once
pub names_once : (named : List NamedSpans) (d : NamedSpans) → named_among d.name named ≡ None
    → has_text_twice (map (λ (x : NamedSpans). x.name) named) ≡ false → has_text_twice (map (λ (x : NamedSpans). x.name) (named ++ d ∷ [])) ≡ false
names_once named d none once =
    ap has_text_twice (map-append (λ (x : NamedSpans). x.name) named (d ∷ []))
    ∙ once_more (map (λ (x : NamedSpans). x.name) named) d.name once (not_among named d.name none)

-- ---- definitions that are added

-- one more definition
pub adds_definition : (hours : Option Hours) (values : List Value) (i : ℕ) (value : Value) (d : NamedSpans) (before mid after : List NamedSpans)
    → i < length values → value ≡ get_or values i value
    → Adds before mid (DecodeEach (IsObject (HasDefinition hours)) (items_view (take i values))) → after ≡ mid ++ d ∷ []
    → IsObject (HasDefinition hours) (view value) d → Adds before after (DecodeEach (IsObject (HasDefinition hours)) (items_view (take (i + 1) values)))
adds_definition hours values i value d before mid after here is so_far pushed more =
    let D = IsObject (HasDefinition hours) in
    let taken : take (i + 1) values ≡ take i values ++ value ∷ [] =
    take_more values i value here ∙ ap (λ (v : Value). take i values ++ v ∷ []) (sym is) in (
      so_far.0 ++ d ∷ [],
      pushed ∙ ap (λ ds. ds ++ d ∷ []) so_far.1 ∙ append_assoc before so_far.0 (d ∷ []),
      subst (λ (vs : List Value). DecodeEach D (items_view vs) (so_far.0 ++ d ∷ [])) (sym taken)
          (decode_more D (take i values) so_far.0 value d so_far.2 more),
    )

-- ---- routes

listed_one : (named : List NamedSpans) (o : Option (List ℕ)) (i : ℕ) (lists : List (List Span)) → IsSomeAnd o (λ name. IsFoundAt named name (Some i))
    → (spans : List Span) × (spans_before (slice_get named i) lists ≡ spans ∷ lists)
    × IsSomeAnd o (λ name. IsSomeAnd (named_among name named) (λ d. spans ≡ d.spans))
listed_one named None i lists found = absurd found
listed_one named (Some name) i lists found = (
  found.0.spans,
  ap (λ o. spans_before o lists) found.1,
  subst (λ o. IsSomeAnd o (λ d. found.0.spans ≡ d.spans)) (sym found.2) refl,
)

-- the spans of what is listed
listed_each : (named : List NamedSpans) (values : Items) (is : List ℕ) → DecodeEach (IsIndexOf named) values is
    → DecodeEach (IsListed named) values (spans_at named is)
listed_each named no_items [] each = tt
listed_each named no_items (i ∷ is) each = absurd each
listed_each named (item value values) [] each = absurd each
listed_each named (item value values) (i ∷ is) each =
    let one = listed_one named _ i (spans_at named is) each.0 in
    subst (λ lists. DecodeEach (IsListed named) (item value values) lists) (sym one.1) (one.2, listed_each named values is each.1)

listed_in : (named : List NamedSpans) (array : Option Items) (is : List ℕ) → MatchOption array ⊥ (λ items. DecodeEach (IsIndexOf named) items is)
    → MatchOption array ⊥ (λ items. DecodeEach (IsListed named) items (spans_at named is))
listed_in named None is each = absurd each
listed_in named (Some items) is each = listed_each named items is each

-- the same of a field
pub lists_spans : (named : List NamedSpans) (said_is : Option Data) (is : List ℕ)
    → MatchOption said_is (is ≡ []) (λ value. IsList (IsIndexOf named) value is)
    → MatchOption said_is (spans_at named is ≡ []) (λ value. IsList (IsListed named) value (spans_at named is))
lists_spans named None is none = ap (spans_at named) none
lists_spans named (Some value) is each = listed_in named (as_array value) is each

-- a route without lists is never muted
pub muted_never : (hours : Option Hours) → MutedWhen hours [] [] []
muted_never None = refl
muted_never (Some hours) = λ t. never _ _
  where
    never : (a b : Bool) → false ≡ (a && (false || (b && false)))
    never true true = refl
    never true false = refl
    never false b = refl

-- the lists of a key
pub key_lists : (times : TimesData) (mute active key : List ℕ) (spans : List Span) → key ≡ lists_key mute active
    → MutedAt times (mute_in key) (active_in key) spans → MutedAt times mute active spans
key_lists times mute active key spans is muted =
    let first : mute_in key ≡ mute = ap mute_in is ∙ take-append_seam mute active in
    let other : active_in key ≡ active = ap active_in is ∙ drop-append_seam mute active in
    subst (λ m. MutedAt times m active spans) first (subst (λ a. MutedAt times (mute_in key) a spans) other muted)

-- the other way round
pub key_given : (times : TimesData) (mute active key : List ℕ) (spans : List Span) → key ≡ lists_key mute active
    → MutedAt times mute active spans → MutedAt times (mute_in key) (active_in key) spans
key_given times mute active key spans is muted =
    let first : mute_in key ≡ mute = ap mute_in is ∙ take-append_seam mute active in
    let other : active_in key ≡ active = ap active_in is ∙ drop-append_seam mute active in
    subst (λ m. MutedAt times m (active_in key) spans) (sym first) (subst (λ a. MutedAt times mute a spans) (sym other) muted)

-- ---- when a route is muted

-- by what the clocks say of the spans of its lists
pub muted_when : (clocks : Option Hours) (hours : Hours) (horizon : ℕ) (mute active muting acting : List (List Span)) (spans moved : List Span)
    → clocks ≡ Some hours → horizon ≡ hours.horizon → muting ≡ mute → acting ≡ active
    → ((t : ℕ) → is_muted spans t ≡ is_muted_by_time horizon muting acting t)
    → ((t : ℕ) → is_muted moved t ≡ (leb hours.from t && is_muted spans (t - hours.from))) → MutedWhen clocks mute active moved
muted_when clocks hours horizon mute active muting acting spans moved is same m a held later =
    subst (λ (o : Option Hours). MutedWhen o mute active moved) (sym is)
    (λ t. later t
    ∙ ap (λ b. leb hours.from t && b)
    (held (t - hours.from) ∙ (λ i. is_muted_by_time (same i) (m i) (a i) (t - hours.from))))

-- without clocks
pub muted_without : (clocks : Option Hours) (mute active : List (List Span)) → clocks ≡ None → MutedWhen clocks mute active []
muted_without clocks mute active is = subst (λ (o : Option Hours). MutedWhen o mute active []) (sym is) refl

-- one more key
pub given_more : (times : TimesData) (key : Vec ℕ Global) (spans : List Span) (was now : Vec ℕ Global → Option (List Span))
    → MutedAt times (mute_in key.items) (active_in key.items) spans
    → ((k : Vec ℕ Global) (s : List Span) → was k ≡ Some s → MutedAt times (mute_in k.items) (active_in k.items) s)
    → ((k : Vec ℕ Global) → now k ≡ cond (pointwise nat_eq key.items k.items) (Some spans) (was k)) → (k : Vec ℕ Global) (s : List Span)
    → now k ≡ Some s → MutedAt times (mute_in k.items) (active_in k.items) s
given_more times key spans was now muted given put k s is =
    elim (pointwise nat_eq key.items k.items) as (λ b. pointwise nat_eq key.items k.items ≡ b → cond b (Some spans) (was k) ≡ Some s
    → MutedAt times (mute_in k.items) (active_in k.items) s) [
      | true ↦ λ same here.
          let one : spans ≡ s = cc in
          subst (λ x. MutedAt times (mute_in k.items) (active_in k.items) x) one
          (subst (λ items. MutedAt times (mute_in items) (active_in items) spans) (same_text key.items k.items same) muted)
      | false ↦ λ other here. given k s here
    ] refl (sym (put k) ∙ is)

-- a route without names
pub muted_nowhere : (times : TimesData) (mute active : List ℕ) → mute ≡ [] → active ≡ [] → MutedAt times mute active []
muted_nowhere times mute active m a =
    subst (λ is. MutedAt times is active []) (sym m) (subst (λ is. MutedAt times [] is []) (sym a) (muted_never times.hours))

-- ---- the spans of indexes

before_append : (o : Option NamedSpans) (xs ys : List (List Span)) → spans_before o (xs ++ ys) ≡ spans_before o xs ++ ys
before_append None xs ys = refl
before_append (Some d) xs ys = refl

spans_at_more : (named : List NamedSpans) (is : List ℕ) (i : ℕ) → spans_at named (is ++ i ∷ []) ≡ spans_at named is ++ spans_before (slice_get named i) []
spans_at_more named [] i = refl
spans_at_more named (j ∷ js) i =
    ap (spans_before (slice_get named j)) (spans_at_more named js i)
    ∙ before_append (slice_get named j) (spans_at named js) (spans_before (slice_get named i) [])

spans_taken : (named : List NamedSpans) (indexes : List ℕ) (k : ℕ) → k < length indexes
    → spans_at named (take (k + 1) indexes) ≡ spans_at named (take k indexes) ++ spans_before (slice_get named (get_or indexes k 0)) []
spans_taken named indexes k here = ap (spans_at named) (take_more indexes k 0 here) ∙ spans_at_more named (take k indexes) (get_or indexes k 0)

-- one more index that a definition has
pub spans_more : (named : List NamedSpans) (indexes : List ℕ) (k : ℕ) (d : NamedSpans) (xs ys : List (Bor (List Span))) (spans : Bor (List Span))
    → k < length indexes → slice_get named (get_or indexes k 0) ≡ Some d → spans.now ≡ d.spans
    → map (λ (s : Bor (List Span)). s.now) xs ≡ spans_at named (take k indexes) → ys ≡ xs ++ spans ∷ []
    → map (λ (s : Bor (List Span)). s.now) ys ≡ spans_at named (take (k + 1) indexes)
spans_more named indexes k d xs ys spans here found own so_far pushed =
    ap (map (λ (s : Bor (List Span)). s.now)) pushed
    ∙ map-append (λ (s : Bor (List Span)). s.now) xs (spans ∷ [])
    ∙ (λ j. so_far j ++ own j ∷ [])
    ∙ sym (spans_taken named indexes k here ∙ ap (λ o. spans_at named (take k indexes) ++ spans_before o []) found)

-- one more that none has
pub spans_skip : (named : List NamedSpans) (indexes : List ℕ) (k : ℕ) (xs : List (Bor (List Span))) → k < length indexes
    → slice_get named (get_or indexes k 0) ≡ None → map (λ (s : Bor (List Span)). s.now) xs ≡ spans_at named (take k indexes)
    → map (λ (s : Bor (List Span)). s.now) xs ≡ spans_at named (take (k + 1) indexes)
spans_skip named indexes k xs here none so_far =
    so_far
    ∙ sym (append-nil (spans_at named (take k indexes)))
    ∙ sym (spans_taken named indexes k here ∙ ap (λ o. spans_at named (take k indexes) ++ spans_before o []) none)

-- what a list has at an index, as a look-up gives it
pub looked_up : (xs : List NamedSpans) (i : ℕ) (o : Option (Bor NamedSpans)) → is_some o ≡ nat_lt i (length xs)
    → IfSome o (λ x. x.now ≡ get_or xs i x.now) → option_copied o ≡ slice_get xs i
looked_up xs i None none here = sym (slice_get_past xs i (grind (arith, nat_tests)))
looked_up xs i (Some x) some here = sym (slice_get_read xs (length xs) i x.now refl (grind (arith, nat_tests)) here)
