-- Members of a JSON object that are put in one after another, and its values without floats.
use Rattle.std.proofs.Common.{◌≡◌, ◌∙◌, ◌+◌, ◌<◌, ℕ, false, List, [], ◌∷◌, ◌++◌, Ordering, Less, Equal, Greater, get_or, length, map}
use Rattle.std.proofs.Common.{Err, Global, Ok, OnErr, OnOk, Result, String, nat_cmp, take, ap, refl, sym}
use Rattle.std.proofs.lemmas.Bool.{or_from, or_parts}
use Rattle.std.proofs.lemmas.List.{map-append, take_more}
use Rattle.std.specs.Cmp.Lexicographic.{slice_cmp}
use Rattle.std.specs.Ordering.{match_ordering}
use Rattle.serde_json.specs.Data.{Data, Members, member, no_members, put}
use Rattle.serde_json.specs.View.{items_view, members_view, view}
use Rattle.serde_json.specs.Written.{has_float, items_have_float, members_have_float}
use Rattle.serde_json.specs.declared.value.Value.{Value}
use Rattle.am_timeline.specs.Json.{Member, put_all}

-- members that are put in after others
pub put_more : (ms : Members) (first second : List Member) → put_all (put_all ms first) second ≡ put_all ms (first ++ second)
unfolding put_all
put_more ms [] second = refl
put_more ms (m ∷ first) second = put_more (put m.0 m.1 ms) first second

-- the same behind any change of members
pub put_after : (a : Members) {b d : Members} (first second : List Member) → b ≡ put_all a first → d ≡ put_all b second
    → d ≡ put_all a (first ++ second)
put_after a {b} {d} first second e f = f ∙ ap (λ ms. put_all ms second) e ∙ put_more a first second

-- members that are the first of an object
pub put_first : {a b : Members} (first : List Member) → a ≡ no_members → b ≡ put_all a first → b ≡ put_all no_members first
put_first {a} {b} first e f = f ∙ ap (λ ms. put_all ms first) e

-- no members put in leave members as they were
pub put_none : (ms : Members) → ms ≡ put_all ms []
unfolding put_all
put_none ms = refl

-- the member of the next item, after those of the items before it
pub put_next : {X : Type 0} (f : X → Member) (old before after : Members) (xs : List X) (i : ℕ) (x d : X) → i < length xs
    → x ≡ get_or xs i d → before ≡ put_all old (map f (take i xs)) → after ≡ put_all before (f x ∷ [])
    → after ≡ put_all old (map f (take (i + 1) xs))
put_next f old before after xs i x d within here is_before is_after =
    is_after ∙ ap (λ ms. put_all ms (f x ∷ [])) is_before ∙ put_more old (map f (take i xs)) (f x ∷ [])
    ∙ ap (put_all old) (sym (map-append f (take i xs) (x ∷ [])))
    ∙ ap (λ ys. put_all old (map f ys)) (sym (take_more xs i d within ∙ ap (λ y. take i xs ++ y ∷ []) (sym here)))

-- what lists that were made of items have after the next one
pub map_next : {X Y Z : Type 0} (f : X → Z) (g : Y → Z) (old new : List Y) (y : Y) (xs : List X) (i : ℕ) (x d : X) → i < length xs
    → x ≡ get_or xs i d → g y ≡ f x → map g old ≡ map f (take i xs) → new ≡ old ++ y ∷ [] → map g new ≡ map f (take (i + 1) xs)
map_next f g old new y xs i x d within here same so_far pushed =
    ap (map g) pushed ∙ map-append g old (y ∷ []) ∙ ap (λ zs. zs ++ g y ∷ []) so_far ∙ ap (λ z. map f (take i xs) ++ z ∷ []) same
    ∙ sym (map-append f (take i xs) (x ∷ [])) ∙ ap (map f) (sym (take_more xs i d within ∙ ap (λ z. take i xs ++ z ∷ []) (sym here)))

either : (o : Ordering) (a b c : Members) → members_have_float a ≡ false → members_have_float b ≡ false → members_have_float c ≡ false
    → members_have_float (match_ordering o a b c) ≡ false
either Less a b c no_a no_b no_c = no_a
either Equal a b c no_a no_b no_c = no_b
either Greater a b c no_a no_b no_c = no_c

-- members without floats, with one more
pub put_without_float : (k : List ℕ) (d : Data) (ms : Members) → has_float d ≡ false → members_have_float ms ≡ false
    → members_have_float (put k d ms) ≡ false
put_without_float k d no_members no_d no_ms = or_from (has_float d) false no_d refl
put_without_float k d (member l e ms) no_d no_ms =
    let parts = or_parts (has_float e) (members_have_float ms) no_ms in
    either (slice_cmp nat_cmp k l) (member k d (member l e ms)) (member l d ms) (member l e (put k d ms))
    (or_from (has_float d) (members_have_float (member l e ms)) no_d no_ms) (or_from (has_float d) (members_have_float ms) no_d parts.1)
    (or_from (has_float e) (members_have_float (put k d ms)) parts.0 (put_without_float k d ms no_d parts.1))

-- items without floats, with one more
pub pushed_without_float : (vs : List Value) (v : Value) → items_have_float (items_view vs) ≡ false → has_float (view v) ≡ false
    → items_have_float (items_view (vs ++ v ∷ [])) ≡ false
pushed_without_float [] v no_vs no_v = or_from (has_float (view v)) false no_v refl
pushed_without_float (w ∷ vs) v no_vs no_v =
    let parts = or_parts (has_float (view w)) (items_have_float (items_view vs)) no_vs in
    or_from (has_float (view w)) (items_have_float (items_view (vs ++ v ∷ []))) parts.0 (pushed_without_float vs v parts.1 no_v)

-- the same of an object's entries, where one was put or nothing was changed
pub kept_without_float : {T E : Type 0} (r : Result T E) (k : List ℕ) (d : Data) (old new : List (String Global × Value))
    → OnOk r (members_view new ≡ put k d (members_view old)) → OnErr r (new ≡ old) → has_float d ≡ false
    → members_have_float (members_view old) ≡ false → members_have_float (members_view new) ≡ false
kept_without_float (Ok x) k d old new is same no_d no_old = ap members_have_float is ∙ put_without_float k d (members_view old) no_d no_old
kept_without_float (Err e) k d old new is same no_d no_old = ap (λ es. members_have_float (members_view es)) same ∙ no_old
