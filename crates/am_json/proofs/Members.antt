-- The members of an object, and the items of an array.
use Rattle.std.proofs.Common.{◌≡◌, ◌<◌, ◌&&◌, ◌||◌, ◌∙◌, ◌++◌, ℕ, zero, suc, Bool, true, false, not, List, [], ◌∷◌, Option, Some, None, length, map, find, get_or, option_map, refl, sym, ap, subst, is_none, if◌then◌else◌, Bor, string_bytes, MatchOption, arith}
use Rattle.std.specs.List.{list_all}
use Rattle.std.specs.Str.{bytes_eq}
use Rattle.am_alerts.specs.Labels.{occurs_in}
use Rattle.serde_json.specs.Data.{Data, string, Items, no_items, item, Members, no_members, member}
use Rattle.serde_json.specs.Events.{items_len}
use Rattle.serde_json.specs.Find.{as_str}
use Rattle.serde_json.specs.View.{items_view, members_view, view}
use Rattle.serde_json.specs.declared.value.Value.{Value}
use Rattle.serde_json.proofs.Views.{Entry, items_len-items_view}
use Rattle.am_json.specs.Configured.{text_members}
use Rattle.am_json.specs.Decoding.{DecodeEach}
use Rattle.am_json.specs.Read.{are_named, is_one_of}

-- an array has as many items as there are values
pub has_all : (array : Option Items) (values : List Value) (n : ℕ) → Some (items_view values) ≡ array → n ≡ length values → option_map items_len array ≡ Some n
has_all array values n is all = sym (ap (option_map items_len) is) ∙ ap Some (items_len-items_view values ∙ sym all)

-- nothing is found that fails a test where all pass it
pub none_fails : {A B : Type 0} (test : B → Bool) (f : A → B) (xs : List A) → is_none (find (λ y. not (test y)) (map f xs)) ≡ list_all (λ x. test (f x)) xs
none_fails test f [] = refl
none_fails test f (x ∷ xs) = step (test (f x)) (none_fails test f xs)
  where
    step : (b : Bool) → is_none (find (λ y. not (test y)) (map f xs)) ≡ list_all (λ z. test (f z)) xs
        → is_none (if not b then Some (f x) else find (λ y. not (test y)) (map f xs)) ≡ (b && list_all (λ z. test (f z)) xs)
    step true later = later
    step false later = refl

-- one more value, and what it says
pub decode_more : {X : Type 0} (decodes_to : Data → X → Type 0) (values : List Value) (xs : List X) (value : Value) (x : X)
    → DecodeEach decodes_to (items_view values) xs → decodes_to (view value) x → DecodeEach decodes_to (items_view (values ++ value ∷ [])) (xs ++ x ∷ [])
decode_more decodes_to [] [] value x so_far more = (more, tt)
decode_more decodes_to [] (y ∷ ys) value x so_far more = absurd so_far
decode_more decodes_to (v ∷ vs) [] value x so_far more = absurd so_far
decode_more decodes_to (v ∷ vs) (y ∷ ys) value x so_far more = (so_far.0, decode_more decodes_to vs ys value x so_far.1 more)

-- a name is one of these
one_named : (names : List (Bor (List ℕ))) (name : List ℕ) → is_one_of names name ≡ occurs_in name (map (λ (n : Bor (List ℕ)). n.now) names)
one_named [] name = refl
one_named (n ∷ ns) name = ap (λ b. bytes_eq n.now name || b) (one_named ns name)

-- each entry has one of these names where each member that it represents has
pub named_in : (names : List (Bor (List ℕ))) (es : List Entry)
    → list_all (λ (m : Entry). is_one_of names (string_bytes m.0)) es ≡ are_named (map (λ (n : Bor (List ℕ)). n.now) names) (members_view es)
named_in names [] = refl
named_in names (e ∷ es) = λ i. one_named names (string_bytes e.0) i && named_in names es i

pub first : (a b : Bool) → (a && b) ≡ true → a ≡ true
first true b both = refl
first false b both = both

pub second : (a b : Bool) → (a && b) ≡ true → b ≡ true
second true b both = both
second false b both = absurd (cc)

-- what says a list says each of its items
pub decoded_at : {X : Type 0} (decodes_to : Data → X → Type 0) (sure : X → Bool) (values : List Value) (xs : List X) (i : ℕ) (value : Value)
    → i < length values → value ≡ get_or values i value → DecodeEach decodes_to (items_view values) xs → list_all sure xs ≡ true
    → (x : X) × decodes_to (view value) x × (sure x ≡ true)
decoded_at decodes_to sure [] xs i value here is decoded all = absurd (omega (arith, here))
decoded_at decodes_to sure (v ∷ vs) [] i value here is decoded all = absurd decoded
decoded_at decodes_to sure (v ∷ vs) (x ∷ xs) zero value here is decoded all =
    (x, subst (λ (w : Value). decodes_to (view w) x) (sym is) decoded.0, first (sure x) (list_all sure xs) all)
decoded_at decodes_to sure (v ∷ vs) (x ∷ xs) (suc i) value here is decoded all =
    decoded_at decodes_to sure vs xs i value (omega (arith, here)) is decoded.1 (second (sure x) (list_all sure xs) all)

-- a list that each array says is given by this one
pub decoded_list : {X : Type 0} (decodes_to : Data → X → Type 0) (sure : X → Bool) (array : Option Items) (values : List Value) (xs : List X) (i : ℕ)
    (value : Value) → Some (items_view values) ≡ array → i < length values → value ≡ get_or values i value
    → MatchOption array ⊥ (λ items. DecodeEach decodes_to items xs) → list_all sure xs ≡ true → (x : X) × decodes_to (view value) x × (sure x ≡ true)
decoded_list decodes_to sure array values xs i value array_is here is decoded all =
    decoded_at decodes_to sure values xs i value here is
    (subst (λ (o : Option Items). MatchOption o ⊥ (λ items. DecodeEach decodes_to items xs)) (sym array_is) decoded) all

-- as many items are given as there are
pub decoded_len : {X : Type 0} (decodes_to : Data → X → Type 0) (items : Items) (xs : List X) → DecodeEach decodes_to items xs → items_len items ≡ length xs
decoded_len decodes_to no_items [] decoded = refl
decoded_len decodes_to no_items (x ∷ xs) decoded = absurd decoded
decoded_len decodes_to (item v vs) [] decoded = absurd decoded
decoded_len decodes_to (item v vs) (x ∷ xs) decoded = ap suc (decoded_len decodes_to vs xs decoded.1)

pub decoded_count : {X : Type 0} (decodes_to : Data → X → Type 0) (array : Option Items) (xs : List X) (n : ℕ) → option_map items_len array ≡ Some n
    → MatchOption array ⊥ (λ items. DecodeEach decodes_to items xs) → length xs ≡ n
decoded_count decodes_to None xs n count decoded = absurd decoded
decoded_count decodes_to (Some items) xs n count decoded = sym (decoded_len decodes_to items xs decoded) ∙ cc

-- a list that an array says has as many items as there are values
pub decoded_values : {X : Type 0} (decodes_to : Data → X → Type 0) (array : Option Items) (values : List Value) (xs : List X) → Some (items_view values) ≡ array
    → MatchOption array ⊥ (λ items. DecodeEach decodes_to items xs) → length xs ≡ length values
decoded_values decodes_to array values xs is decoded =
    decoded_count decodes_to array xs (length values) (has_all array values (length values) is refl) decoded

-- an array has no other number of items than there are values
pub counted : (array : Option Items) (values : List Value) (n : ℕ) → Some (items_view values) ≡ array → option_map items_len array ≡ Some n
    → n ≡ length values
counted array values n is count = let all = has_all array values (length values) is refl in cc

-- members with one more behind them
abbrev with_last : Members → List ℕ → Data → Members
with_last no_members name value = member name value no_members
with_last (member n v members) name value = member n v (with_last members name value)

members_view-append : (es : List Entry) (e : Entry) → members_view (es ++ e ∷ []) ≡ with_last (members_view es) (string_bytes e.0) (view e.1)
members_view-append [] e = refl
members_view-append (x ∷ es) e = ap (member (string_bytes x.0) (view x.1)) (members_view-append es e)

text_members-append : (ps : List (Bor (List ℕ) × Bor (List ℕ))) (p : Bor (List ℕ) × Bor (List ℕ))
    → text_members (ps ++ p ∷ []) ≡ with_last (text_members ps) p.0.now (string p.1.now)
text_members-append [] p = refl
text_members-append (x ∷ ps) p = ap (member x.0.now (string x.1.now)) (text_members-append ps p)

-- one more member, and its text
pub text_more : (es : List Entry) (ps : List (Bor (List ℕ) × Bor (List ℕ))) (e : Entry) (p : Bor (List ℕ) × Bor (List ℕ))
    → members_view es ≡ text_members ps → string_bytes e.0 ≡ p.0.now → view e.1 ≡ string p.1.now
    → members_view (es ++ e ∷ []) ≡ text_members (ps ++ p ∷ [])
text_more es ps e p so_far name text =
    members_view-append es e
    ∙ (λ i. with_last (so_far i) (name i) (text i))
    ∙ sym (text_members-append ps p)

-- where members are texts, each is one
pub texts_at : (done left : List Entry) (e : Entry) (ts : List (Bor (List ℕ) × Bor (List ℕ))) → members_view (done ++ e ∷ left) ≡ text_members ts
    → as_str (view e.1) ≡ None → ⊥
texts_at [] left e [] is none = absurd (cc)
texts_at [] left e (t ∷ ts) is none =
    let text : view e.1 ≡ string t.1.now = cc in
    absurd (cc (ap as_str text))
texts_at (d ∷ done) left e [] is none = absurd (cc)
texts_at (d ∷ done) left e (t ∷ ts) is none = texts_at done left e ts (cc) none

-- an array of two items
pub two_items : (values : List Value) (array : Option Items) (first second : Data) → Some (items_view values) ≡ array
    → array ≡ Some (item first (item second no_items)) → length values ≡ 2
two_items [] array first second is decoded = absurd (cc)
two_items (v ∷ []) array first second is decoded = absurd (cc)
two_items (v ∷ w ∷ []) array first second is decoded = refl
two_items (v ∷ w ∷ x ∷ vs) array first second is decoded = absurd (cc)

-- an array of three items
pub three_items : (values : List Value) (array : Option Items) (first second third : Data) → Some (items_view values) ≡ array
    → array ≡ Some (item first (item second (item third no_items))) → length values ≡ 3
three_items [] array first second third is decoded = absurd (cc)
three_items (v ∷ []) array first second third is decoded = absurd (cc)
three_items (v ∷ w ∷ []) array first second third is decoded = absurd (cc)
three_items (v ∷ w ∷ x ∷ []) array first second third is decoded = refl
three_items (v ∷ w ∷ x ∷ y ∷ vs) array first second third is decoded = absurd (cc)
