-- The alerts of a group in the order of their labels: as their indexes say it, and as it goes through what a begin makes of them.
use denote.Param.Members.{Mut}
use Rattle.std.proofs.Common.{◌≡◌, ℕ, zero, suc, ◌+◌, ◌<◌, ◌++◌, get_or, take, Bool, true, false, cond, not, Option, Some, None, List, [], ◌∷◌, length, map, filter, slice_get, refl, sym, ap, ◌∙◌, subst, arith}
use Rattle.std.specs.Prelude.{IsPermutation, IsSortedBy}
use Rattle.std.specs.Borrow.{Bor}
use Rattle.std.specs.Cmp.{IsTotalOrder, IsStrictWeakOrder, upto}
use Rattle.std.specs.Cmp.Lexicographic.{options_total}
use Rattle.std.specs.Fn.{Called, ComparesAs}
use Rattle.std.specs.List.{list_all, IsDistinct, cons_option, filter_map, range_with_len}
use Rattle.std.specs.Option.{option_cmp, option_map}
use Rattle.std.specs.Ordering.{is_lt, is_gt, eq_by_cmp}
use Rattle.std.specs.declared.cmp.Ordering.{Ordering}
use Rattle.std.specs.declared.cmp.Ordering.TheVariants.{Less, Equal, Greater}
use Rattle.std.proofs.lemmas.Bool.{false≢true, and_from, and_parts}
use Rattle.std.proofs.lemmas.Cmp.{on_total}
use Rattle.std.proofs.lemmas.List.{length-map, take_more}
use Rattle.std.proofs.lemmas.List.FromFn.{length-range_with_len}
use Rattle.std.proofs.lemmas.List.Elements.{filter_map-append}
use Rattle.std.proofs.lemmas.List.Sorted.{IsPermutation-append_left, IsPermutation-refl, IsPermutation-trans, length_permutation}
use Rattle.std.proofs.lemmas.Map.Keys.{IsDistinct-tail}
use Rattle.std.proofs.lemmas.Option.{slice_get-map}
use Rattle.am_alerts.specs.Labels.{same_label_set, label_set_cmp}
use Rattle.am_alerts.specs.LabelOrder.{label_set_cmp_total, same_label_set-cmp}
use Rattle.am_alerts.specs.declared.labels.Label.{Label}
use Rattle.am_nflog.specs.Members.{is_ascending}
use Rattle.am_model.specs.Insert.{same_member}
use Rattle.am_model.specs.Lists.{put_in_order, in_order}
use Rattle.am_model.specs.State.{MemberState}
use Rattle.am_model.proofs.lists.Distinct.{IsDistinct-mapped, IsDistinct-unmap}
use Rattle.am_model.proofs.lists.InOrder.{sort_by_is_in_order, in_order-ascends, in_order-map}
use Rattle.am_board.specs.Refinement.{member_state}
use Rattle.am_board.specs.Members.{labels_of}
use Rattle.am_board.specs.Order.{AreIndexes, member_cmp, index_cmp, indexes_in_order}
use Rattle.am_board.specs.declared.group.Member.{Member}

-- ---- all indexes

shifted : {X : Type 0} (f : ℕ → X) (a n : ℕ) → map f (range_with_len (a + 1) n) ≡ map (λ i. f (suc i)) (range_with_len a n)
shifted f a zero = refl
shifted f a (suc n) =
    let e : a + 1 ≡ suc a = omega arith in
    ap (λ i. f i ∷ map f (range_with_len (a + 1 + 1) n)) e ∙ ap (λ xs. f (suc a) ∷ xs) (shifted f (a + 1) n)

-- what is at all indexes
pub all_there : {X : Type 0} (xs : List X) → map (slice_get xs) (range_with_len 0 (length xs)) ≡ map Some xs
all_there [] = refl
all_there (x ∷ xs) = ap (λ os. Some x ∷ os) (shifted (slice_get (x ∷ xs)) 0 (length xs) ∙ all_there xs)

one_more : (a n j : ℕ) → a + n ≡ j → range_with_len a (suc n) ≡ range_with_len a n ++ j ∷ []
one_more a zero j e = let same : a ≡ j = omega (arith, e) in ap (λ k. k ∷ []) same
one_more a (suc n) j e = ap (λ ks. a ∷ ks) (one_more (a + 1) n j (omega (arith, e)))

-- one index more
pub counting : (n : ℕ) → range_with_len 0 (n + 1) ≡ range_with_len 0 n ++ n ∷ []
counting n = let on : n + 1 ≡ suc n = omega arith in ap (range_with_len 0) on ∙ one_more 0 n n (omega arith)

-- ---- the indexes in order

pub index_cmp_total : (sets : List (List Label)) → IsTotalOrder (index_cmp sets)
index_cmp_total sets = on_total (slice_get sets) (options_total label_set_cmp_total)

member_cmp_total : IsTotalOrder member_cmp
member_cmp_total = on_total labels_of label_set_cmp_total

labels_mapped : (ms : List Member) → map (λ (m : MemberState). m.alert.labels) (map member_state ms) ≡ map labels_of ms
labels_mapped [] = refl
labels_mapped (m ∷ ms) = ap (λ ls. labels_of m ∷ ls) (labels_mapped ms)

-- no two indexes tie where no two alerts have one label set
indexes_apart : (ms : List Member) → IsDistinct same_member (map member_state ms) → IsDistinct (eq_by_cmp (index_cmp (map labels_of ms))) (range_with_len 0 (length (map labels_of ms)))
indexes_apart ms apart =
    let sets = map labels_of ms in
    let differ : IsDistinct same_label_set sets =
    subst (IsDistinct same_label_set) (labels_mapped ms) (IsDistinct-mapped same_member same_label_set (λ (m : MemberState). m.alert.labels) (λ m n. refl) (map member_state ms) apart) in
    let there : IsDistinct (eq_by_cmp (option_cmp label_set_cmp)) (map Some sets) =
    IsDistinct-mapped same_label_set (eq_by_cmp (option_cmp label_set_cmp)) Some (λ k l. sym (same_label_set-cmp k l)) sets differ in
    IsDistinct-unmap (slice_get sets) (eq_by_cmp (option_cmp label_set_cmp)) (range_with_len 0 (length sets))
    (subst (IsDistinct (eq_by_cmp (option_cmp label_set_cmp))) (sym (all_there sets)) there)

-- what a sort of all indexes gives
pub sorted_indexes : {F : Type 0} {g : Mut F (Bor ℕ × (Bor ℕ × Unit {0})) Ordering} {f : F} (ms : List Member) (xs ys : List ℕ) → IsPermutation (range_with_len 0 (length ms)) xs → IsPermutation xs ys
    → ((lt : ℕ → ℕ → Bool) → IsStrictWeakOrder lt → ComparesAs g lt f → IsSortedBy lt ys)
    → ((a : Bor ℕ × (Bor ℕ × Unit {0})) (r : Ordering) (f' : F) → Called g f a r f' → (r ≡ index_cmp (map labels_of ms) a.0.now a.1.0.now) × (f' ≡ f))
    → IsDistinct same_member (map member_state ms) → ys ≡ indexes_in_order (map labels_of ms)
sorted_indexes ms xs ys all moved sorted answers apart =
    let sets = map labels_of ms in
    let as_many : range_with_len 0 (length ms) ≡ range_with_len 0 (length sets) = ap (range_with_len 0) (sym (length-map ms labels_of)) in
    let from : IsPermutation (range_with_len 0 (length sets)) ys =
    subst (λ all_indexes. IsPermutation all_indexes ys) as_many (IsPermutation-trans (range_with_len 0 (length ms)) xs ys all moved) in
    sort_by_is_in_order (index_cmp sets) (index_cmp_total sets) (range_with_len 0 (length sets)) ys from sorted answers (indexes_apart ms apart)

-- one index more behind others
pub one_added : (i : ℕ) (xs ys : List ℕ) → IsPermutation (range_with_len 0 i) xs → ys ≡ xs ++ i ∷ [] → IsPermutation (range_with_len 0 (i + 1)) ys
one_added i xs ys moved added =
    subst (λ all_indexes. IsPermutation all_indexes ys) (sym (counting i))
    (subst (IsPermutation (range_with_len 0 i ++ i ∷ [])) (sym added) (IsPermutation-append_left (i ∷ []) (range_with_len 0 i) xs moved))

-- no index is there
pub none_there : (ms : List Member) → AreIndexes [] ms
none_there [] = record { first = IsPermutation-refl []; within = omega arith; sorted = λ whole. refl }
none_there (m ∷ ms) = record { first = IsPermutation-refl []; within = omega arith; sorted = λ whole. absurd (omega (arith, whole)) }

-- all indexes are there, in the order of labels
pub all_sorted : (ms : List Member) (ps : List ℕ) → ps ≡ indexes_in_order (map labels_of ms) → IsPermutation (range_with_len 0 (length ms)) ps → AreIndexes ps ms
all_sorted ms ps is moved =
    let as_many : length ps ≡ length ms = length_permutation (range_with_len 0 (length ms)) ps moved ∙ length-range_with_len 0 (length ms) in
    record {
      first = subst (λ n. IsPermutation (range_with_len 0 n) ps) (sym as_many) moved;
      within = omega (arith, as_many);
      sorted = λ whole. is;
    }

-- ---- the alerts at the indexes

given : {X Y : Type 0} (h : X → Option Y) (xs : List X) → filter_map h xs ≡ filter_map (λ (o : Option Y). o) (map h xs)
given h [] = refl
given h (x ∷ xs) = ap (cons_option (h x)) (given h xs)

all_given : {X : Type 0} (xs : List X) → filter_map (λ (o : Option X). o) (map Some xs) ≡ xs
all_given [] = refl
all_given (x ∷ xs) = ap (λ ys. x ∷ ys) (all_given xs)

-- one index more
pub there_more : (ms : List Member) (ps : List ℕ) (i : ℕ) (o : Option Member) → i < length ps → slice_get ms (get_or ps i 0) ≡ o
    → filter_map (slice_get ms) (take (i + 1) ps) ≡ filter_map (slice_get ms) (take i ps) ++ cons_option o []
there_more ms ps i o within at =
    ap (filter_map (slice_get ms)) (take_more ps i 0 within)
    ∙ filter_map-append (slice_get ms) (take i ps) (get_or ps i 0 ∷ [])
    ∙ ap (λ p. filter_map (slice_get ms) (take i ps) ++ cons_option p []) at

options_alike : (o p : Option Member) → option_cmp member_cmp o p ≡ option_cmp label_set_cmp (option_map labels_of o) (option_map labels_of p)
options_alike None None = refl
options_alike None (Some n) = refl
options_alike (Some m) None = refl
options_alike (Some m) (Some n) = refl

index_mapped : (ms : List Member) (i j : ℕ) → option_cmp member_cmp (slice_get ms i) (slice_get ms j) ≡ index_cmp (map labels_of ms) i j
index_mapped ms i j =
    options_alike (slice_get ms i) (slice_get ms j)
    ∙ (λ k. option_cmp label_set_cmp (sym (slice_get-map labels_of ms i) k) (sym (slice_get-map labels_of ms j) k))

-- at the indexes in order the alerts are in order
pub members_there : (ms : List Member) → filter_map (slice_get ms) (indexes_in_order (map labels_of ms)) ≡ in_order member_cmp ms
members_there ms =
    let sets = map labels_of ms in
    let all = range_with_len 0 (length sets) in
    given (slice_get ms) (in_order (index_cmp sets) all)
    ∙ ap (filter_map (λ (o : Option Member). o))
    (in_order-map (index_cmp sets) (option_cmp member_cmp) (slice_get ms) (index_mapped ms) all
    ∙ ap (λ n. in_order (option_cmp member_cmp) (map (slice_get ms) (range_with_len 0 n))) (length-map ms labels_of)
    ∙ ap (in_order (option_cmp member_cmp)) (all_there ms)
    ∙ sym (in_order-map member_cmp (option_cmp member_cmp) Some (λ m n. refl) ms))
    ∙ all_given (in_order member_cmp ms)

-- ---- what is in order stays so where some are left out

module _ {X : Type 0} (cmp : X → X → Ordering) (order : IsTotalOrder cmp) (test : X → Bool) where
  -- nothing of these is below x
  abbrev IsBefore : X → List X → Type 0
  IsBefore x ws = list_all (λ w. not (is_gt (cmp x w))) ws ≡ true

  all-left : (p : X → Bool) (ws : List X) → list_all p ws ≡ true → list_all p (filter test ws) ≡ true
  all-left p [] all = refl
  all-left p (w ∷ ws) all =
      let parts = and_parts (p w) (list_all p ws) all in
      elim (test w) as (λ b. list_all p (cond b (w ∷ filter test ws) (filter test ws)) ≡ true) [
        | true ↦ and_from (p w) (list_all p (filter test ws)) parts.0 (all-left p ws parts.1)
        | false ↦ all-left p ws parts.1
      ]

  first : (x : X) (ws : List X) → IsBefore x ws → put_in_order cmp x ws ≡ x ∷ ws
  first x [] before = refl
  first x (w ∷ ws) before = by (is_gt (cmp x w)) (and_parts (not (is_gt (cmp x w))) (list_all (λ v. not (is_gt (cmp x v))) ws) before).0
    where
      by : (b : Bool) → not b ≡ true → cond b (w ∷ put_in_order cmp x ws) (x ∷ w ∷ ws) ≡ x ∷ w ∷ ws
      by true h = absurd (false≢true h)
      by false h = refl

  -- x isn't above y, which is below all of these
  below_all : (x y : X) → is_gt (cmp x y) ≡ false → (ws : List X) → list_all (λ w. is_lt (cmp y w)) ws ≡ true → IsBefore x ws
  below_all x y e [] all = refl
  below_all x y e (w ∷ ws) all =
      let parts = and_parts (is_lt (cmp y w)) (list_all (λ v. is_lt (cmp y v)) ws) all in
      and_from (not (is_gt (cmp x w))) (list_all (λ v. not (is_gt (cmp x v))) ws) (ap not (upto order x y w e (below (cmp y w) parts.0))) (below_all x y e ws parts.1)
    where
      below : (o : Ordering) → is_lt o ≡ true → is_gt o ≡ false
      below Less l = refl
      below Equal l = absurd (false≢true l)
      below Greater l = absurd (false≢true l)

  put-left : (x : X) (ys : List X) → is_ascending cmp ys ≡ true → filter test (put_in_order cmp x ys) ≡ cond (test x) (put_in_order cmp x (filter test ys)) (filter test ys)
  put-left x [] up = refl
  put-left x (y ∷ ys) up = by (is_gt (cmp x y)) refl (put-left x ys (and_parts (list_all (λ w. is_lt (cmp y w)) ys) (is_ascending cmp ys) up).1)
    where
      parts : (list_all (λ w. is_lt (cmp y w)) ys ≡ true) × (is_ascending cmp ys ≡ true)
      parts = and_parts (list_all (λ w. is_lt (cmp y w)) ys) (is_ascending cmp ys) up

      behind : (p q : Bool) → is_gt (cmp x y) ≡ true → (rest left : List X) → left ≡ cond q (put_in_order cmp x rest) rest
          → cond p (y ∷ left) left ≡ cond q (put_in_order cmp x (cond p (y ∷ rest) rest)) (cond p (y ∷ rest) rest)
      behind true true e rest left is = ap (λ l. y ∷ l) is ∙ sym (ap (λ b. cond b (y ∷ put_in_order cmp x rest) (x ∷ y ∷ rest)) e)
      behind true false e rest left is = ap (λ l. y ∷ l) is
      behind false true e rest left is = is
      behind false false e rest left is = is

      before : is_gt (cmp x y) ≡ false → (q : Bool) → cond q (x ∷ filter test (y ∷ ys)) (filter test (y ∷ ys)) ≡ cond q (put_in_order cmp x (filter test (y ∷ ys))) (filter test (y ∷ ys))
      before e true =
          sym (first x (filter test (y ∷ ys)) (all-left (λ w. not (is_gt (cmp x w))) (y ∷ ys) (and_from (not (is_gt (cmp x y))) (list_all (λ v. not (is_gt (cmp x v))) ys) (ap not e) (below_all x y e ys parts.0))))
      before e false = refl

      by : (b : Bool) → is_gt (cmp x y) ≡ b → filter test (put_in_order cmp x ys) ≡ cond (test x) (put_in_order cmp x (filter test ys)) (filter test ys)
          → filter test (put_in_order cmp x (y ∷ ys)) ≡ cond (test x) (put_in_order cmp x (filter test (y ∷ ys))) (filter test (y ∷ ys))
      by true e rest =
          ap (λ b. filter test (cond b (y ∷ put_in_order cmp x ys) (x ∷ y ∷ ys))) e
          ∙ behind (test y) (test x) e (filter test ys) (filter test (put_in_order cmp x ys)) rest
      by false e rest =
          ap (λ b. filter test (cond b (y ∷ put_in_order cmp x ys) (x ∷ y ∷ ys))) e
          ∙ before e (test x)

  pub in_order-filter : (xs : List X) → IsDistinct (eq_by_cmp cmp) xs → filter test (in_order cmp xs) ≡ in_order cmp (filter test xs)
  in_order-filter [] apart = refl
  in_order-filter (x ∷ xs) apart =
      let rest = IsDistinct-tail (eq_by_cmp cmp) x xs apart in
      put-left x (in_order cmp xs) (in_order-ascends cmp order xs rest)
      ∙ ap (λ l. cond (test x) (put_in_order cmp x l) l) (in_order-filter xs rest)
      ∙ by (test x)
    where
      by : (b : Bool) → cond b (put_in_order cmp x (in_order cmp (filter test xs))) (in_order cmp (filter test xs)) ≡ in_order cmp (cond b (x ∷ filter test xs) (filter test xs))
      by true = refl
      by false = refl
