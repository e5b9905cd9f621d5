-- Expectations that look for no pattern.
use Rattle.std.proofs.Common.{◌≡◌, ◌<◌, ◌&&◌, ◌∙◌, ℕ, zero, suc, Bool, true, false, not, List, [], ◌∷◌, Option, Some, None, MatchOption, codes, get_or, length, refl, sym, ap, subst, arith, if◌then◌else◌}
use Rattle.std.specs.Option.{option_map_or, option_or}
use Rattle.serde_json.specs.Data.{Data, Items, Members}
use Rattle.serde_json.specs.Find.{get_member}
use Rattle.serde_json.specs.View.{items_view, view}
use Rattle.serde_json.specs.declared.value.Value.{Value}
use Rattle.am_alerts.specs.Matcher.{compare_texts}
use Rattle.am_alerts.specs.declared.matcher.MatcherParts.{MatcherParts}
use Rattle.am_json.specs.Configured.{DecodesToMatcher}
use Rattle.am_json.specs.Decoding.{DecodeEach, IsList}
use Rattle.am_json.specs.declared.reader.Mode.{Mode}
use Rattle.am_plans.specs.Expected.{AreMatchersIn, AreMatchersOf, HaveNoRegex, HasNoRegexIn, HasNoRegexAt, said_or_of}

no_regex_by : (mode : Mode) (or_of : Bool) (found of : Option Data) (ms : Option (List MatcherParts))
    → ((m : List MatcherParts) → MatchOption found ⊥ (λ v. IsList (DecodesToMatcher mode) v m) → compare_texts m ≡ true)
    → ((m : List MatcherParts) → MatchOption of ⊥ (λ v. IsList (DecodesToMatcher mode) v m) → compare_texts m ≡ true)
    → AreMatchersIn mode (option_or found (if or_of then of else None)) ms → option_map_or compare_texts ms true ≡ true
no_regex_by mode or_of (Some v) of None own other decoded = absurd decoded
no_regex_by mode or_of (Some v) of (Some m) own other decoded = own m decoded.listed
no_regex_by mode true None (Some v) None own other decoded = absurd decoded
no_regex_by mode true None (Some v) (Some m) own other decoded = other m decoded.listed
no_regex_by mode true None None ms own other decoded = ap (λ (o : Option (List MatcherParts)). option_map_or compare_texts o true) decoded
no_regex_by mode false None of ms own other decoded = ap (λ (o : Option (List MatcherParts)). option_map_or compare_texts o true) decoded

-- matchers that are said, or that `of` says for them, look for none
pub no_regex_said : (mode : Mode) (or_of : Bool) (name : List ℕ) (members : Members) (ms : Option (List MatcherParts)) → HasNoRegexAt mode name members
    → HasNoRegexAt mode (codes "of") members → AreMatchersIn mode (said_or_of or_of name members) ms → option_map_or compare_texts ms true ≡ true
no_regex_said mode or_of name members ms own other decoded =
    no_regex_by mode or_of (get_member name members) (get_member (codes "of") members) ms own other decoded

-- the matchers of a member that is there
pub said_of : (mode : Mode) (found : Option Data) (value : Data) (ms : Option (List MatcherParts)) → Some value ≡ found → AreMatchersIn mode found ms
    → option_map_or compare_texts ms true ≡ true → (m : List MatcherParts) × AreMatchersOf mode value m × (compare_texts m ≡ true)
said_of mode found value ms is decoded without = by ms (subst (λ (o : Option Data). AreMatchersIn mode o ms) (sym is) decoded) without
  where
    by : (n : Option (List MatcherParts)) → AreMatchersIn mode (Some value) n → option_map_or compare_texts n true ≡ true
        → (m : List MatcherParts) × AreMatchersOf mode value m × (compare_texts m ≡ true)
    by None decoded without = absurd decoded
    by (Some m) decoded without = (m, decoded, without)

-- a member that is there is said, and so is `of` where it represents one that isn't
pub said_own : (or_of : Bool) (name : List ℕ) (members : Members) (value : Data) → Some value ≡ get_member name members → Some value ≡ said_or_of or_of name members
said_own or_of name members value is = ap (λ (o : Option Data). option_or o (if or_of then get_member (codes "of") members else None)) is

pub said_other : (or_of : Bool) (name : List ℕ) (members : Members) (value : Data) → None ≡ get_member name members → or_of ≡ true
    → Some value ≡ get_member (codes "of") members → Some value ≡ said_or_of or_of name members
said_other or_of name members value none holds is =
    is ∙ (λ i. option_or (none i) (if sym holds i then get_member (codes "of") members else None))

-- ---- lists

no_regex_at : {X : Type 0} (decodes : Data → X → Type 0) (mode : Mode) (values : List Value) (xs : List X) (i : ℕ) (value : Value) → i < length values
    → value ≡ get_or values i value → DecodeEach decodes (items_view values) xs → HaveNoRegex mode (items_view values)
    → (x : X) × decodes (view value) x × HasNoRegexIn mode (view value)
no_regex_at decodes mode [] xs i value here is decoded without = absurd (omega (arith, here))
no_regex_at decodes mode (v ∷ vs) [] i value here is decoded without = absurd decoded
no_regex_at decodes mode (v ∷ vs) (x ∷ xs) zero value here is decoded without =
    (x, subst (λ (w : Value). decodes (view w) x) (sym is) decoded.0, subst (λ (w : Value). HasNoRegexIn mode (view w)) (sym is) without.0)
no_regex_at decodes mode (v ∷ vs) (x ∷ xs) (suc i) value here is decoded without =
    no_regex_at decodes mode vs xs i value (omega (arith, here)) is decoded.1 without.1

-- each value of an array says one of a list, and looks for none
pub no_regex_in : {X : Type 0} (decodes : Data → X → Type 0) (mode : Mode) (array : Option Items) (values : List Value) (xs : List X) (i : ℕ) (value : Value)
    → Some (items_view values) ≡ array → i < length values → value ≡ get_or values i value → MatchOption array ⊥ (λ items. DecodeEach decodes items xs)
    → MatchOption array Unit (HaveNoRegex mode) → (x : X) × decodes (view value) x × HasNoRegexIn mode (view value)
no_regex_in decodes mode array values xs i value array_is here is decoded without =
    no_regex_at decodes mode values xs i value here is
    (subst (λ (o : Option Items). MatchOption o ⊥ (λ items. DecodeEach decodes items xs)) (sym array_is) decoded)
    (subst (λ (o : Option Items). MatchOption o Unit (HaveNoRegex mode)) (sym array_is) without)

-- as many items as there are values
pub decoded_all : {X : Type 0} (decodes : Data → X → Type 0) (array : Option Items) (values : List Value) (xs : List X) → Some (items_view values) ≡ array
    → MatchOption array ⊥ (λ items. DecodeEach decodes items xs) → length xs ≡ length values
decoded_all {X = X} decodes array values xs array_is decoded =
    by values xs (subst (λ (o : Option Items). MatchOption o ⊥ (λ items. DecodeEach decodes items xs)) (sym array_is) decoded)
  where
    by : (vs : List Value) (ys : List X) → DecodeEach decodes (items_view vs) ys → length ys ≡ length vs
    by [] [] decoded = refl
    by [] (y ∷ ys) decoded = absurd decoded
    by (v ∷ vs) [] decoded = absurd decoded
    by (v ∷ vs) (y ∷ ys) decoded = ap suc (by vs ys decoded.1)

-- ---- what an expectation's alerts lack

pub first_fails : (a b c d e : Bool) → a ≡ true → (not a && b && c && d && e) ≡ false
first_fails true b c d e is = refl
first_fails false b c d e is = absurd (cc)

pub second_fails : (a b c d e : Bool) → b ≡ false → (not a && b && c && d && e) ≡ false
second_fails true b c d e is = refl
second_fails false true c d e is = absurd (cc)
second_fails false false c d e is = refl

pub third_fails : (a b c d e : Bool) → c ≡ false → (not a && b && c && d && e) ≡ false
third_fails true b c d e is = refl
third_fails false false c d e is = refl
third_fails false true true d e is = absurd (cc)
third_fails false true false d e is = refl

pub fourth_fails : (a b c d e : Bool) → d ≡ false → (not a && b && c && d && e) ≡ false
fourth_fails true b c d e is = refl
fourth_fails false false c d e is = refl
fourth_fails false true false d e is = refl
fourth_fails false true true true e is = absurd (cc)
fourth_fails false true true false e is = refl

pub fifth_fails : (a b c d e : Bool) → e ≡ false → (not a && b && c && d && e) ≡ false
fifth_fails true b c d e is = refl
fifth_fails false false c d e is = refl
fifth_fails false true false d e is = refl
fifth_fails false true true false e is = refl
fifth_fails false true true true e is = is
