-- Label sets: what a filter keeps, and what a sort of labels with different names gives.
use Rattle.std.proofs.Common.{◌≡◌, ◌≢◌, ℕ, ◌+◌, ◌≤◌, suc, Bool, true, false, cond, ◌&&◌, ◌||◌, List, [], ◌∷◌, length, filter, get_or}
use Rattle.std.proofs.Common.{count_by, All, None, Ordering, IsPermutation, IsSorted, IsSortedBy, is_none, sym, refl, ap, ◌∙◌, subst, arith}
use Rattle.std.specs.declared.cmp.Ordering.TheVariants.{Less, Equal, Greater}
use Rattle.std.specs.Ordering.{is_lt, is_eq, ordering_then, ordering_reverse}
use Rattle.std.specs.List.{list_all}
use Rattle.std.specs.Str.{bytes_eq}
use Rattle.std.specs.Cmp.Lexicographic.{nat_list_cmp_total, texts_ties, bytes_decides}
use Rattle.std.proofs.lemmas.Bool.{false_from_ne_true, false≢true}
use Rattle.std.proofs.lemmas.Bool.Decides.{nat_tests}
use Rattle.std.proofs.lemmas.List.Sorted.{All-permutation, sum_by-IsPermutation, length_permutation, sorted_far, ranks_by}
use Rattle.std.proofs.lemmas.List.Sums.{sum_by-cons, length-filter, count_by-le-length, get_or-le-sum_by, AllPass-from_list_all}
use Rattle.std.proofs.lemmas.List.Sums.{list_all-from_AllPass}
use Rattle.am_alerts.specs.declared.labels.Label.{Label}
use Rattle.am_alerts.specs.Fault.{first_fault}
use Rattle.am_alerts.specs.LabelOrder.{label_cmp_total, label_set_hash, same_label_set-decides}
use Rattle.am_alerts.specs.Labels.{has_value, has_text_twice, has_rising_names, names_of, occurs_in, with_values, is_label, pair_fault}
use Rattle.am_alerts.specs.Labels.{same_label_set, set_fault, label_cmp, text_cmp, IsLabelSet, IsReadOf}
use Rattle.am_alerts.specs.declared.limits.TheConstants.{MAX_LABELS}
use Rattle.am_alerts.proofs.Faults.{none_of_both}

both_true : (a b : Bool) → (a && b) ≡ true → (a ≡ true) × (b ≡ true)
both_true true b e = (refl, e)
both_true false b e = absurd (false≢true e)

pub both_false : (a b : Bool) → (a || b) ≡ false → (a ≡ false) × (b ≡ false)
both_false true b e = absurd (cc)
both_false false b e = (refl, e)

-- ---- what a filter keeps

list_all-filter : {X : Type 0} (q p : X → Bool) (xs : List X) → list_all q xs ≡ true → list_all q (filter p xs) ≡ true
list_all-filter q p [] h = h
list_all-filter q p (x ∷ xs) h =
    by (p x) (both_true (q x) (list_all q xs) h).0 (list_all-filter q p xs (both_true (q x) (list_all q xs) h).1)
  where
    by : (b : Bool) → q x ≡ true → list_all q (filter p xs) ≡ true → list_all q (cond b (x ∷ filter p xs) (filter p xs)) ≡ true
    by true e f = ap (λ (r : Bool). r && list_all q (filter p xs)) e ∙ f
    by false e f = f

has_rising_names-filter : (p : Label → Bool) (ls : List Label) → has_rising_names ls ≡ true → has_rising_names (filter p ls) ≡ true
has_rising_names-filter p [] h = h
has_rising_names-filter p (l ∷ ls) h =
    let parts = both_true (list_all (λ m. is_lt (text_cmp l.name m.name)) ls) (has_rising_names ls) h in
    by (p l) (list_all-filter (λ m. is_lt (text_cmp l.name m.name)) p ls parts.0) (has_rising_names-filter p ls parts.1)
  where
    by : (b : Bool) → list_all (λ m. is_lt (text_cmp l.name m.name)) (filter p ls) ≡ true → has_rising_names (filter p ls) ≡ true
        → has_rising_names (cond b (l ∷ filter p ls) (filter p ls)) ≡ true
    by true e f = ap (λ (r : Bool). r && has_rising_names (filter p ls)) e ∙ f
    by false e f = f

length-filter-le : {X : Type 0} (p : X → Bool) (xs : List X) → length (filter p xs) ≤ length xs
length-filter-le p xs = omega (arith, length-filter p xs, count_by-le-length p xs)

-- a filter of a label set is a label set
pub IsLabelSet-filter : (p : Label → Bool) (ls : List Label) → IsLabelSet ls → IsLabelSet (filter p ls)
IsLabelSet-filter p ls h = record {
  rising = has_rising_names-filter p ls h.rising;
  labelled = list_all-filter is_label p ls h.labelled;
  few = omega (arith, length-filter-le p ls, h.few);
}

-- ---- what the sort gives

-- how many labels have a name
abbrev count_named : List ℕ → List Label → ℕ
count_named name ls = count_by (λ l. bytes_eq l.name name) ls

count_named-none : (name : List ℕ) (ls : List Label) → occurs_in name (names_of ls) ≡ false → count_named name ls ≡ 0
count_named-none name [] h = refl
count_named-none name (l ∷ ls) h =
    let parts = both_false (bytes_eq l.name name) (occurs_in name (names_of ls)) h in
    sum_by-cons (λ m. cond (bytes_eq m.name name) 1 0) l ls ∙ ap (λ b. cond b 1 0 + count_named name ls) parts.0
    ∙ ap (λ n. 0 + n) (count_named-none name ls parts.1)

-- where no name is twice, each is at most once
count_named-once : (ls : List Label) → has_text_twice (names_of ls) ≡ false → (name : List ℕ) → count_named name ls ≤ 1
count_named-once [] h name = omega arith
count_named-once (l ∷ ls) h name =
    let parts = both_false (occurs_in l.name (names_of ls)) (has_text_twice (names_of ls)) h in
    let step = sum_by-cons (λ m. cond (bytes_eq m.name name) 1 0) l ls in
    by (bytes_eq l.name name) refl step (count_named-none l.name ls parts.0) (count_named-once ls parts.1 name)
  where
    by : (b : Bool) → bytes_eq l.name name ≡ b → count_named name (l ∷ ls) ≡ cond (bytes_eq l.name name) 1 0 + count_named name ls
        → count_named l.name ls ≡ 0 → count_named name ls ≤ 1 → count_named name (l ∷ ls) ≤ 1
    by true e step none once =
        let same : l.name ≡ name = (bytes_decides l.name name).0 e in
        let gone : count_named name ls ≡ 0 = ap (λ n. count_named n ls) (sym same) ∙ none in
        let one = ap (λ b. cond b 1 0 + count_named name ls) e in
        omega (arith, step, one, gone)
    by false e step none once =
        let other = ap (λ b. cond b 1 0 + count_named name ls) e in
        omega (arith, step, other, once)

-- the labels of a list have other names where a name is counted nowhere
others_named : (name : List ℕ) (ls : List Label) → count_named name ls ≡ 0 → All (λ l. bytes_eq l.name name ≡ false) ls
others_named name ls none =
    λ k d within. by k d (bytes_eq (get_or ls k d).name name) refl (get_or-le-sum_by (λ l. cond (bytes_eq l.name name) 1 0) ls k d within)
    none
  where
    by : (k : ℕ) (d : Label) (b : Bool) → bytes_eq (get_or ls k d).name name ≡ b
        → cond (bytes_eq (get_or ls k d).name name) 1 0 ≤ count_named name ls → count_named name ls ≡ 0
        → bytes_eq (get_or ls k d).name name ≡ false
    by k d true e low zero = absurd (let one = ap {B = ℕ} (λ b. cond b 1 0) e in omega (arith, one, low, zero))
    by k d false e low zero = e

-- a label that isn't below another, and has another name, is above it
above : (y m : Label) → is_lt (label_cmp m y) ≡ false → bytes_eq m.name y.name ≡ false → is_lt (text_cmp y.name m.name) ≡ true
above y m not_below other = by (text_cmp m.name y.name) refl
  where
    by : (o : Ordering) → text_cmp m.name y.name ≡ o → is_lt (text_cmp y.name m.name) ≡ true
    by Less e = absurd (false≢true (sym not_below ∙ ap (λ p. is_lt (ordering_then p (text_cmp m.value y.value))) e))
    by Equal e = absurd (false≢true (sym other ∙ texts_ties m.name y.name ∙ ap is_eq e))
    by Greater e = ap is_lt (nat_list_cmp_total.antisymm y.name m.name ∙ ap ordering_reverse e)

-- labels in order whose names are once rise by name
rising-sorted : (ls : List Label) → IsSortedBy (λ x y. is_lt (label_cmp x y)) ls → ((name : List ℕ) → count_named name ls ≤ 1)
    → has_rising_names ls ≡ true
rising-sorted [] sorted once = refl
rising-sorted (l ∷ ls) sorted once =
    let count = λ (name : List ℕ). sum_by-cons (λ (m : Label). cond (bytes_eq m.name name) 1 0) l ls in
    let own : count_named l.name ls ≡ 0 =
    (let one = ap (λ b. cond b 1 0 + count_named l.name ls) ((bytes_decides l.name l.name).1 refl) in
    omega (arith, count l.name, one, once l.name)) in
    let others = others_named l.name ls own in
    let later : list_all (λ m. is_lt (text_cmp l.name m.name)) ls ≡ true =
    list_all-from_AllPass (λ m. is_lt (text_cmp l.name m.name)) ls (λ k d within.
    above l (get_or ls k d)
    (sorted_far (λ x y. is_lt (label_cmp x y)) (ranks_by label_cmp_total (λ x. x)) (l ∷ ls) sorted 0 (suc k) d (omega arith)
    (omega arith)) (others k d within)) in
    let rest : has_rising_names ls ≡ true =
    rising-sorted ls (λ k d low high. let e : suc k + 1 ≡ suc (k + 1) = omega arith in
    subst (λ j. is_lt (label_cmp (get_or (l ∷ ls) j d) (get_or ls k d)) ≡ false) e (sorted (suc k) d (omega arith) (omega arith)))
    (λ name. omega (arith, count name, once name)) in
    ap (λ b. b && has_rising_names ls) later ∙ rest

no_fault_set : (ls : List Label) → set_fault ls ≡ None → (length ls ≤ MAX_LABELS) × (has_text_twice (names_of ls) ≡ false)
no_fault_set ls none = (grind (arith, nat_tests), grind (arith, nat_tests))

-- pairs that are no fault are labels
labels-fine : (ps : List Label) → first_fault pair_fault ps ≡ None → list_all is_label (with_values ps) ≡ true
labels-fine [] none = refl
labels-fine (p ∷ ps) none =
    let parts = none_of_both (pair_fault p) (first_fault pair_fault ps) none in
    by (has_value p) refl parts.0 (labels-fine ps parts.1)
  where
    by : (b : Bool) → has_value p ≡ b → pair_fault p ≡ None → list_all is_label (with_values ps) ≡ true
        → list_all is_label (cond b (p ∷ with_values ps) (with_values ps)) ≡ true
    by true e fine rest = ap (λ (t : Bool). t && list_all is_label (with_values ps)) (ap (λ f. is_none f && has_value p) fine ∙ e) ∙ rest
    by false e fine rest = rest

-- the sorted labels of pairs without a fault are their label set
pub IsReadOf-sorted : (ps ls : List Label) → first_fault pair_fault ps ≡ None → set_fault (with_values ps) ≡ None
    → IsPermutation (with_values ps) ls → IsSorted label_cmp ls → IsReadOf ps ls
IsReadOf-sorted ps ls fine sound moved sorted =
    let set = no_fault_set (with_values ps) sound in
    let once : (name : List ℕ) → count_named name ls ≤ 1 =
    λ name. omega (
      arith,
      sum_by-IsPermutation (λ l. cond (bytes_eq l.name name) 1 0) (with_values ps) ls moved,
      count_named-once (with_values ps) set.1 name,
    ) in
    record {
      label_set = record {
        rising = rising-sorted ls sorted once;
        labelled = list_all-from_AllPass is_label ls
            (All-permutation (λ l. is_label l ≡ true) (with_values ps) ls moved
            (AllPass-from_list_all is_label (with_values ps) (labels-fine ps fine)));
        few = omega (arith, length_permutation (with_values ps) ls moved, set.0);
      };
      pairs_moved = moved;
    }

-- label sets are the same only where their hashes are
pub unlike_hashes : (a b : List Label) → (label_set_hash a ≢ label_set_hash b) → same_label_set a b ≡ false
unlike_hashes a b unlike = false_from_ne_true (same_label_set a b) (λ e. unlike (ap label_set_hash ((same_label_set-decides a b).0 e)))
