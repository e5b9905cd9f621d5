-- Lists of spans that are apart: what is at their ends, and what a span more does. What they hold is in am_alerts' `Muted`.
use Rattle.std.proofs.Common.{◌≡◌, ℕ, zero, suc, get_or, length, ◌+◌, ◌<◌, ◌≤◌, Bool, true, false, List, [], ◌∷◌, ◌++◌, refl, ap, sym, ◌∙◌, arith}
use Rattle.std.specs.Prelude.{◌&&◌, ◌||◌, nat_le, nat_lt}
use Rattle.std.proofs.lemmas.Bool.{and_parts, and_from, ltb-true, leb-true, lt-ltb, le-leb}
use Rattle.am_alerts.specs.declared.spans.Span.{Span}
use Rattle.am_alerts.specs.Spans.{are_apart, begins_behind}
use Rattle.am_alerts.proofs.Muted.{apart-parts}
use Rattle.am_hours.specs.Merging.{begin_by}

-- two tests with one meaning are equal
pub same_tests : (a b : Bool) → (a ≡ true → b ≡ true) → (b ≡ true → a ≡ true) → a ≡ b
same_tests true b f g = sym (f refl)
same_tests false true f g = g refl
same_tests false false f g = refl

pub or_regroup : (a b c : Bool) → (a || (b || c)) ≡ ((a || b) || c)
or_regroup true b c = refl
or_regroup false b c = refl

-- what `are_apart` is made of
pub apart-made : (x : Span) (xs : List Span) → x.from < x.to → begins_behind x.to xs ≡ true → are_apart xs ≡ true
    → are_apart (x ∷ xs) ≡ true
apart-made x xs a b c =
    and_from (nat_lt x.from x.to && begins_behind x.to xs) (are_apart xs)
    (and_from (nat_lt x.from x.to) (begins_behind x.to xs) (lt-ltb x.from x.to a) b) c

-- without the last span, spans stay apart
pub begins-front : (n : ℕ) (xs ys : List Span) → begins_behind n (xs ++ ys) ≡ true → begins_behind n xs ≡ true
begins-front n [] ys h = refl
begins-front n (x ∷ xs) ys h = h

pub apart-front : (xs ys : List Span) → are_apart (xs ++ ys) ≡ true → are_apart xs ≡ true
apart-front [] ys h = refl
apart-front (x ∷ xs) ys h =
    let p = apart-parts x (xs ++ ys) h in
    apart-made x xs p.0 (begins-front x.to xs ys p.1) (apart-front xs ys p.2)

-- the last span may end later
begins-same : (n : ℕ) (xs : List Span) (l m : Span) → l.from ≡ m.from
    → begins_behind n (xs ++ l ∷ []) ≡ begins_behind n (xs ++ m ∷ [])
begins-same n [] l m e = ap (nat_lt n) e
begins-same n (x ∷ xs) l m e = refl

pub apart-longer : (xs : List Span) (l m : Span) → l.from ≡ m.from → l.to ≤ m.to
    → are_apart (xs ++ l ∷ []) ≡ true → are_apart (xs ++ m ∷ []) ≡ true
apart-longer [] l m e longer h =
    let p = apart-parts l [] h in
    apart-made m [] (omega (arith, p.0)) refl refl
apart-longer (x ∷ xs) l m e longer h =
    let p = apart-parts x (xs ++ l ∷ []) h in
    apart-made x (xs ++ m ∷ []) p.0 (sym (begins-same x.to xs l m e) ∙ p.1) (apart-longer xs l m e longer p.2)

-- a span more, behind the last
begins-kept : (n : ℕ) (xs : List Span) (l s : Span)
    → begins_behind n ((xs ++ l ∷ []) ++ s ∷ []) ≡ begins_behind n (xs ++ l ∷ [])
begins-kept n [] l s = refl
begins-kept n (x ∷ xs) l s = refl

pub apart-more : (xs : List Span) (l s : Span) → l.to < s.from → s.from < s.to
    → are_apart (xs ++ l ∷ []) ≡ true → are_apart ((xs ++ l ∷ []) ++ s ∷ []) ≡ true
apart-more [] l s gap some h =
    let p = apart-parts l [] h in
    apart-made l (s ∷ []) p.0 (lt-ltb l.to s.from gap) (apart-made s [] some refl refl)
apart-more (x ∷ xs) l s gap some h =
    let p = apart-parts x (xs ++ l ∷ []) h in
    apart-made x ((xs ++ l ∷ []) ++ s ∷ []) p.0 (begins-kept x.to xs l s ∙ p.1) (apart-more xs l s gap some p.2)

-- the last span isn't empty
pub last-some : (xs : List Span) (l : Span) → are_apart (xs ++ l ∷ []) ≡ true → l.from < l.to
last-some [] l h = (apart-parts l [] h).0
last-some (x ∷ xs) l h = last-some xs l (apart-parts x (xs ++ l ∷ []) h).2

-- spans that are apart begin before the last
first-before : (x : Span) (xs : List Span) (l : Span) → are_apart (x ∷ (xs ++ l ∷ [])) ≡ true → x.from < l.from
first-before x [] l h =
    let p = apart-parts x (l ∷ []) h in
    let q = ltb-true x.to l.from p.1 in
    omega (arith, p.0, q)
first-before x (y ∷ xs) l h =
    let p = apart-parts x (y ∷ (xs ++ l ∷ [])) h in
    let q = ltb-true x.to y.from p.1 in
    let r = first-before y xs l p.2 in
    omega (arith, p.0, q, r)

pub begin_by-apart : (xs : List Span) (l : Span) (t : ℕ) → are_apart (xs ++ l ∷ []) ≡ true
    → begin_by t (xs ++ l ∷ []) ≡ nat_le l.from t
begin_by-apart [] l t h = same_tests (nat_le l.from t && true) (nat_le l.from t)
    (λ a. (and_parts (nat_le l.from t) true a).0) (λ a. and_from (nat_le l.from t) true a refl)
begin_by-apart (x ∷ xs) l t h =
    let p = apart-parts x (xs ++ l ∷ []) h in
    let before = first-before x xs l h in
    let rest = begin_by-apart xs l t p.2 in
    same_tests (nat_le x.from t && begin_by t (xs ++ l ∷ [])) (nat_le l.from t)
    (λ a. sym rest ∙ (and_parts (nat_le x.from t) (begin_by t (xs ++ l ∷ [])) a).1)
    (λ a. let b = leb-true l.from t a in
    and_from (nat_le x.from t) (begin_by t (xs ++ l ∷ [])) (le-leb x.from t (omega (arith, b, before))) (rest ∙ a))

and_true : (a : Bool) → a ≡ (a && true)
and_true true = refl
and_true false = refl

-- all begin by a time where the last does
pub last-begins : (xs : List Span) (k : ℕ) (d : Span) (t : ℕ) → k + 1 ≡ length xs → are_apart xs ≡ true
    → nat_le (get_or xs k d).from t ≡ begin_by t xs
last-begins [] k d t e h = absurd (omega (arith, e))
last-begins (x ∷ []) zero d t e h = and_true (nat_le x.from t)
last-begins (x ∷ []) (suc k) d t e h = absurd (omega (arith, e))
last-begins (x ∷ y ∷ xs) zero d t e h = absurd (omega (arith, e))
last-begins (x ∷ y ∷ xs) (suc k) d t e h =
    let p = apart-parts x (y ∷ xs) h in
    let rest = last-begins (y ∷ xs) k d t (omega (arith, e)) p.2 in
    let lt = ltb-true x.to y.from p.1 in
    rest ∙ same_tests (begin_by t (y ∷ xs)) (nat_le x.from t && begin_by t (y ∷ xs))
    (λ a. let b = leb-true y.from t (and_parts (nat_le y.from t) (begin_by t xs) a).0 in
    and_from (nat_le x.from t) (begin_by t (y ∷ xs)) (le-leb x.from t (omega (arith, b, lt, p.0))) a)
    (λ a. (and_parts (nat_le x.from t) (begin_by t (y ∷ xs)) a).1)

-- what begins by a time begins by each later one
pub begin_by-later : (xs : List Span) (m n : ℕ) → m ≤ n → begin_by m xs ≡ true → begin_by n xs ≡ true
begin_by-later [] m n le h = refl
begin_by-later (x ∷ xs) m n le h =
    let p = and_parts (nat_le x.from m) (begin_by m xs) h in
    let q = leb-true x.from m p.0 in
    and_from (nat_le x.from n) (begin_by n xs) (le-leb x.from n (omega (arith, q))) (begin_by-later xs m n le p.1)
