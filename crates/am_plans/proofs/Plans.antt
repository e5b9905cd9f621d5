-- Plans: planned actions that are added to a list, and put in order.
use denote.Param.Members.{Mut}
use Rattle.std.proofs.Common.{◌≡◌, ◌<◌, ◌≤◌, ◌+◌, ◌∙◌, ◌++◌, ℕ, zero, suc, Bool, true, false, List, [], ◌∷◌, None, is_some, length, map, take, get_or, cond, ◌==◌, subst, refl, sym, ap, arith}
use Rattle.std.specs.Prelude.{IsPermutation, IsSortedBy}
use Rattle.std.specs.Borrow.{Bor}
use Rattle.std.specs.Cmp.{IsTotalOrder, IsStrictWeakOrder}
use Rattle.std.specs.Fn.{Called, ComparesAs}
use Rattle.std.specs.List.{AllByRecursion, IsDistinct, enumerate_from, flat_map, range_with_len}
use Rattle.std.specs.Ordering.{eq_by_cmp, is_eq, is_gt, nat_cmp, ordering_then}
use Rattle.std.specs.declared.cmp.Ordering.{Ordering}
use Rattle.std.specs.declared.cmp.Ordering.TheVariants.{Less, Equal, Greater}
use Rattle.std.proofs.lemmas.Bool.{lt-ltb}
use Rattle.std.proofs.lemmas.Cmp.{nat_cmp_total, on_total, then_total}
use Rattle.std.proofs.lemmas.List.{append-nil, append_assoc, flat_map_more, length-take-le, length_push, map-append, take_more}
use Rattle.std.proofs.lemmas.List.FromFn.{get_or-enumerate_from, length-enumerate_from}
use Rattle.am_alerts.specs.declared.labels.Label.{Label}
use Rattle.am_plans.specs.Planned.{AddsPlans, IsNumbered, insert_of, inserts_in, planned_cmp, set_of, sets_from, time_cmp}
use Rattle.am_plans.specs.declared.planned.Planned.{Planned}
use Rattle.am_plans.specs.declared.silence.SilenceItem.{SilenceItem}
use Rattle.am_plans.specs.declared.span.Span.{Span}
use Rattle.am_model.proofs.lists.InOrder.{sort_by_is_in_order}
use Rattle.am_model.specs.Lists.{in_order, put_in_order}
use Rattle.am_terms.specs.declared.rehearsal.TimedAction.{TimedAction}

-- ---- what is added

pub adds_nothing : (ps : List Planned) → AddsPlans ps ps []
adds_nothing ps = record { plans_are = sym (append-nil (map (λ (p : Planned). p.plan) ps)); numbered = λ h. h }

pub adds_both : (ps qs rs : List Planned) (xs ys : List TimedAction) → AddsPlans ps qs xs → AddsPlans qs rs ys → AddsPlans ps rs (xs ++ ys)
adds_both ps qs rs xs ys first then = record {
  plans_are = then.plans_are ∙ ap (λ l. l ++ ys) first.plans_are ∙ append_assoc (map (λ (p : Planned). p.plan) ps) xs ys;
  numbered = λ h. then.numbered (first.numbered h);
}

range_more : (a n : ℕ) → range_with_len a (suc n) ≡ range_with_len a n ++ (a + n) ∷ []
range_more a zero = let e : a ≡ a + 0 = omega arith in ap (λ m. m ∷ []) e
range_more a (suc n) =
    let e : (a + 1) + n ≡ a + suc n = omega arith in
    ap (λ l. a ∷ l) (range_more (a + 1) n ∙ ap (λ m. range_with_len (a + 1) n ++ m ∷ []) e)

pub adds_one : (ps qs : List Planned) (p : Planned) → qs ≡ ps ++ p ∷ [] → p.number ≡ length ps → AddsPlans ps qs (p.plan ∷ [])
adds_one ps qs p is pointer = record {
  plans_are = ap (map (λ (q : Planned). q.plan)) is ∙ map-append (λ (q : Planned). q.plan) ps (p ∷ []);
  numbered = λ (h : IsNumbered ps).
      let longer : suc (length ps) ≡ length qs = omega (arith, ap length is, length_push ps p) in
      let count : length ps ≡ 0 + length ps = omega arith in
      ap (map (λ (q : Planned). q.number)) is
      ∙ map-append (λ (q : Planned). q.number) ps (p ∷ [])
      ∙ (λ i. h i ++ pointer i ∷ [])
      ∙ ap (λ m. range_with_len 0 (length ps) ++ m ∷ []) count
      ∙ sym (range_more 0 (length ps))
      ∙ ap (range_with_len 0) longer;
}

-- the inserts of a span that has an end, and of one that has none
pub adds_span : (ps qs rs : List Planned) (labels : List Label) (span : Span) → is_some span.to ≡ true → AddsPlans ps qs (insert_of labels span.from None ∷ [])
    → AddsPlans qs rs (insert_of labels span.from span.to ∷ []) → AddsPlans ps rs (inserts_in labels span)
adds_span ps qs rs labels span ends first then =
    subst (λ b. AddsPlans ps rs (insert_of labels span.from None ∷ cond b (insert_of labels span.from span.to ∷ []) [])) (sym ends)
    (adds_both ps qs rs (insert_of labels span.from None ∷ []) (insert_of labels span.from span.to ∷ []) first then)

pub adds_begin : (ps qs : List Planned) (labels : List Label) (span : Span) → is_some span.to ≡ false → AddsPlans ps qs (insert_of labels span.from None ∷ [])
    → AddsPlans ps qs (inserts_in labels span)
adds_begin ps qs labels span open_ended first =
    subst (λ b. AddsPlans ps qs (insert_of labels span.from None ∷ cond b (insert_of labels span.from span.to ∷ []) [])) (sym open_ended) first

-- what is made of one more element
pub adds_more : {X : Type 0} (made : X → List TimedAction) (xs : List X) (i : ℕ) (x : X) (ps qs rs : List Planned) → take (i + 1) xs ≡ take i xs ++ x ∷ []
    → AddsPlans ps qs (flat_map made (take i xs)) → AddsPlans qs rs (made x) → AddsPlans ps rs (flat_map made (take (i + 1) xs))
adds_more made xs i x ps qs rs taken first then =
    subst (λ l. AddsPlans ps rs l) (flat_map_more made [] (take i xs) x ∙ sym (ap (flat_map made) taken))
    (adds_both ps qs rs (flat_map made (take i xs)) (made x) first then)

sets_more : (id : ℕ) (ss : List SilenceItem) (s : SilenceItem) → sets_from id (ss ++ s ∷ []) ≡ sets_from id ss ++ set_of (id + length ss) s ∷ []
sets_more id [] s = let e : id ≡ id + 0 = omega arith in ap (λ n. set_of n s ∷ []) e
sets_more id (x ∷ ss) s =
    let e : (id + 1) + length ss ≡ id + suc (length ss) = omega arith in
    ap (λ l. set_of id x ∷ l) (sets_more (id + 1) ss s ∙ ap (λ n. sets_from (id + 1) ss ++ set_of n s ∷ []) e)

-- one more silence, at the pointer of its number
pub adds_set : (ps qs rs : List Planned) (all : List SilenceItem) (n m k : ℕ) (s : SilenceItem) → m ≡ n + 1 → n < length all → k ≡ n → s ≡ get_or all n s
    → AddsPlans ps qs (sets_from 1 (take n all)) → AddsPlans qs rs (set_of (k + 1) s ∷ []) → AddsPlans ps rs (sets_from 1 (take m all))
adds_set ps qs rs all n m k s next here pointer is first then =
    let taken : take (n + 1) all ≡ take n all ++ s ∷ [] = take_more all n s here ∙ ap (λ x. take n all ++ x ∷ []) (sym is) in
    let id : 1 + length (take n all) ≡ k + 1 = omega (arith, length-take-le n all (omega arith)) in
    let e : sets_from 1 (take m all) ≡ sets_from 1 (take n all) ++ set_of (k + 1) s ∷ [] =
    ap (λ j. sets_from 1 (take j all)) next ∙ ap (sets_from 1) taken ∙ sets_more 1 (take n all) s ∙ ap (λ j. sets_from 1 (take n all) ++ set_of j s ∷ []) id in
    subst (λ l. AddsPlans ps rs l) (sym e) (adds_both ps qs rs (sets_from 1 (take n all)) (set_of (k + 1) s ∷ []) first then)

-- where a walk over numbered items is: its number, and the item there
pub numbered : {X : Type 0} (xs : List X) (n k : ℕ) (x : X) → n < length (enumerate_from 0 xs) → (k, x) ≡ get_or (enumerate_from 0 xs) n (k, x)
    → (n < length xs) × (k ≡ n) × (x ≡ get_or xs n x)
numbered {X} xs n k x there is =
    let within : n < length xs = omega (arith, length-enumerate_from 0 xs) in
    let e : (k, x) ≡ (0 + n, get_or xs n x) = is ∙ get_or-enumerate_from 0 xs n (k, x) within in
    let number : k ≡ 0 + n = ap (λ (p : ℕ × X). p.0) e in
    (within, omega arith, ap (λ (p : ℕ × X). p.1) e)

-- ---- numbers that rise

abbrev pub Rises : List Planned → Type 0
Rises [] = Unit {0}
Rises (p ∷ ps) = AllByRecursion (λ q. p.number < q.number) ps × Rises ps

all_then : (P Q : Planned → Type 0) → ((q : Planned) → P q → Q q) → (ps : List Planned) → AllByRecursion P ps → AllByRecursion Q ps
all_then P Q step [] h = tt
all_then P Q step (q ∷ qs) h = (step q h.0, all_then P Q step qs h.1)

rises_from : (n : ℕ) (ps : List Planned) → map (λ p. p.number) ps ≡ range_with_len n (length ps) → AllByRecursion (λ q. n ≤ q.number) ps × Rises ps
rises_from n [] e = (tt, tt)
rises_from n (p ∷ ps) e =
    let head : p.number ≡ n = cc in
    let tail : map (λ (q : Planned). q.number) ps ≡ range_with_len (n + 1) (length ps) = cc in
    let rest = rises_from (n + 1) ps tail in (
      (omega arith, all_then (λ q. n + 1 ≤ q.number) (λ q. n ≤ q.number) (λ q h. omega arith) ps rest.0),
      (all_then (λ q. n + 1 ≤ q.number) (λ q. p.number < q.number) (λ q h. omega arith) ps rest.0, rest.1),
    )

-- ---- the order

below : (m n : ℕ) → m < n → nat_cmp m n ≡ Less
below m n h = ap (λ b. cond b Less (cond (m == n) Equal Greater)) (lt-ltb m n h)

then_gt : (o : Ordering) → is_gt (ordering_then o Less) ≡ is_gt o
then_gt Less = refl
then_gt Equal = refl
then_gt Greater = refl

then_apart : (o : Ordering) → is_eq (ordering_then o Less) ≡ false
then_apart Less = refl
then_apart Equal = refl
then_apart Greater = refl

-- behind greater numbers the times decide
put_plan : (p : Planned) (qs : List Planned) → AllByRecursion (λ q. p.number < q.number) qs
    → map (λ q. q.plan) (put_in_order planned_cmp p qs) ≡ put_in_order time_cmp p.plan (map (λ q. q.plan) qs)
put_plan p [] h = refl
put_plan p (q ∷ qs) h =
    step (is_gt (planned_cmp p q)) (put_plan p qs h.1)
    ∙ ap (λ b. cond b (q.plan ∷ put_in_order time_cmp p.plan (map (λ (r : Planned). r.plan) qs)) (p.plan ∷ q.plan ∷ map (λ (r : Planned). r.plan) qs))
    (ap (λ o. is_gt (ordering_then (nat_cmp p.plan.at q.plan.at) o)) (below p.number q.number h.0) ∙ then_gt (nat_cmp p.plan.at q.plan.at))
  where
    step : (b : Bool) → map (λ r. r.plan) (put_in_order planned_cmp p qs) ≡ put_in_order time_cmp p.plan (map (λ r. r.plan) qs)
        → map (λ r. r.plan) (cond b (q ∷ put_in_order planned_cmp p qs) (p ∷ q ∷ qs))
        ≡ cond b (q.plan ∷ put_in_order time_cmp p.plan (map (λ r. r.plan) qs)) (p.plan ∷ q.plan ∷ map (λ r. r.plan) qs)
    step true rest = ap (λ l. q.plan ∷ l) rest
    step false rest = refl

all-put : (P : Planned → Type 0) (p : Planned) (qs : List Planned) → P p → AllByRecursion P qs → AllByRecursion P (put_in_order planned_cmp p qs)
all-put P p [] one all = (one, tt)
all-put P p (q ∷ qs) one all =
    elim (is_gt (planned_cmp p q)) as (λ b. AllByRecursion P (cond b (q ∷ put_in_order planned_cmp p qs) (p ∷ q ∷ qs))) [
      | true ↦ (all.0, all-put P p qs one all.1)
      | false ↦ (one, all)
    ]

all-in_order : (P : Planned → Type 0) (ps : List Planned) → AllByRecursion P ps → AllByRecursion P (in_order planned_cmp ps)
all-in_order P [] all = tt
all-in_order P (p ∷ ps) all = all-put P p (in_order planned_cmp ps) all.0 (all-in_order P ps all.1)

plans_rising : (ps : List Planned) → Rises ps → map (λ p. p.plan) (in_order planned_cmp ps) ≡ in_order time_cmp (map (λ p. p.plan) ps)
plans_rising [] h = refl
plans_rising (p ∷ ps) h =
    put_plan p (in_order planned_cmp ps) (all-in_order (λ q. p.number < q.number) ps h.0) ∙ ap (put_in_order time_cmp p.plan) (plans_rising ps h.1)

apart : (ps : List Planned) → Rises ps → IsDistinct (eq_by_cmp planned_cmp) ps
unfolding IsDistinct
apart [] h = tt
apart (p ∷ ps) h = (
  all_then (λ q. p.number < q.number) (λ q. eq_by_cmp planned_cmp p q ≡ false)
      (λ q less. ap (λ o. is_eq (ordering_then (nat_cmp p.plan.at q.plan.at) o)) (below p.number q.number less) ∙ then_apart (nat_cmp p.plan.at q.plan.at)) ps h.0,
  apart ps h.1,
)

planned_cmp_total : IsTotalOrder planned_cmp
planned_cmp_total = then_total (on_total (λ (p : Planned). p.plan.at) nat_cmp_total) (on_total (λ (p : Planned). p.number) nat_cmp_total)

-- from the clauses of a sort by a closure that answers by times and then by numbers: the plans of a numbered list in order
pub sorted_plans : {F : Type 0} {g : Mut F (Bor Planned × (Bor Planned × Unit {0})) Ordering} {f : F} (ps qs : List Planned) → IsNumbered ps → IsPermutation ps qs
    → ((lt : Planned → Planned → Bool) → IsStrictWeakOrder lt → ComparesAs g lt f → IsSortedBy lt qs)
    → ((a : Bor Planned × (Bor Planned × Unit {0})) (r : Ordering) (f' : F) → Called g f a r f' → (r ≡ planned_cmp a.0.now a.1.0.now) × (f' ≡ f))
    → map (λ p. p.plan) qs ≡ in_order time_cmp (map (λ p. p.plan) ps)
sorted_plans ps qs numbered moved sorted answers =
    let rises = (rises_from 0 ps numbered).1 in
    ap (map (λ (p : Planned). p.plan)) (sort_by_is_in_order planned_cmp planned_cmp_total ps qs moved sorted answers (apart ps rises)) ∙ plans_rising ps rises
