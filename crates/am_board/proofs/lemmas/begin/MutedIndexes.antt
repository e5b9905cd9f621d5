-- The muted alerts of a group: found in the order of their labels, and listed by their indexes.
use denote.Param.Members.{Mut}
use Rattle.std.proofs.Common.{◌≡◌, ℕ, zero, suc, ◌+◌, ◌<◌, ◌≤◌, Bool, false, cond, Option, Some, None, List, [], ◌∷◌, ◌++◌, get_or, length, map, slice_get, take, refl, sym, ap, ◌∙◌, subst, arith}
use Rattle.std.specs.Prelude.{IsPermutation, IsSortedBy}
use Rattle.std.specs.Borrow.{Bor}
use Rattle.std.specs.Cmp.{IsTotalOrder, IsStrictWeakOrder, eq_by_cmp_equiv}
use Rattle.std.specs.Fn.{Called, ComparesAs}
use Rattle.std.specs.List.{AllByRecursion, IsDistinct, cons_option, filter_map, range_with_len}
use Rattle.std.specs.Option.{option_and_then}
use Rattle.std.specs.Ordering.{eq_by_cmp, is_gt, nat_cmp}
use Rattle.std.specs.declared.cmp.Ordering.{Ordering}
use Rattle.std.proofs.lemmas.Bool.Decides.{nat_tests}
use Rattle.std.proofs.lemmas.Cmp.{nat_cmp_total, on_total}
use Rattle.std.proofs.lemmas.List.{length-map, take_more}
use Rattle.std.proofs.lemmas.List.Elements.{filter_map-append}
use Rattle.std.proofs.lemmas.List.Sorted.{IsPermutation-refl, IsPermutation-cons, IsPermutation-trans}
use Rattle.std.proofs.lemmas.Map.Keys.{IsDistinct-cons}
use Rattle.am_mute.specs.declared.mute.MuteCause.{MuteCause}
use Rattle.am_model.proofs.lists.Distinct.{IsDistinct-nil}
use Rattle.am_model.proofs.lists.Exchanges.{by_exchanges, two_exchanged, IsDistinct-permutation}
use Rattle.am_model.proofs.lists.InOrder.{in_order-permutation, sort_by_is_in_order}
use Rattle.am_model.proofs.lists.Words.{in_order-moves}
use Rattle.am_model.specs.Lists.{in_order, put_in_order}
use Rattle.am_model.specs.State.{State}
use Rattle.am_model.specs.declared.config.Config.{Config}
use Rattle.am_model.specs.declared.preview.MutedAlert.{MutedAlert}
use Rattle.am_model.specs.look_back.Preview.{muted_alert}
use Rattle.am_board.specs.Members.{labels_of}
use Rattle.am_board.specs.Order.{index_cmp, indexes_in_order}
use Rattle.am_board.specs.Refinement.{member_state}
use Rattle.am_board.specs.Walk.{alert_there, cause_of, muted_at, muted_if, muted_member}
use Rattle.am_board.specs.declared.group.Member.{Member}
use Rattle.am_board.specs.declared.walk.MutedIndex.{MutedIndex}
use Rattle.am_board.proofs.lemmas.invariant.Order.{all_there}

-- ---- lists

-- a permutation of what is looked at is one of what is found
module _ {X Y : Type 0} (h : X → Option Y) where
  found_more : (o : Option Y) (xs ys : List Y) → IsPermutation xs ys → IsPermutation (cons_option o xs) (cons_option o ys)
  found_more None xs ys p = p
  found_more (Some y) xs ys p = IsPermutation-cons y xs ys p

  found_two : (o p : Option Y) (xs : List Y) → IsPermutation (cons_option o (cons_option p xs)) (cons_option p (cons_option o xs))
  found_two None None xs = IsPermutation-refl xs
  found_two None (Some z) xs = IsPermutation-refl (z ∷ xs)
  found_two (Some y) None xs = IsPermutation-refl (y ∷ xs)
  found_two (Some y) (Some z) xs = two_exchanged y z xs

  pub filter_map-permutation : (xs ys : List X) → IsPermutation xs ys → IsPermutation (filter_map h xs) (filter_map h ys)
  filter_map-permutation = by_exchanges (λ xs ys. IsPermutation (filter_map h xs) (filter_map h ys)) (λ xs. IsPermutation-refl (filter_map h xs))
      (λ x xs ys p. found_more (h x) (filter_map h xs) (filter_map h ys) p)
      (λ x y xs. found_two (h x) (h y) (filter_map h xs))
      (λ xs ys zs p q. IsPermutation-trans (filter_map h xs) (filter_map h ys) (filter_map h zs) p q)

-- what is found of what is found
filter_map-twice : {X Y Z : Type 0} (h : X → Option Y) (k : Y → Option Z) (xs : List X) → filter_map k (filter_map h xs) ≡ filter_map (λ x. option_and_then k (h x)) xs
filter_map-twice h k [] = refl
filter_map-twice {Y = Y} h k (x ∷ xs) = by (h x) ∙ ap (cons_option (option_and_then k (h x))) (filter_map-twice h k xs)
  where
    by : (o : Option Y) → filter_map k (cons_option o (filter_map h xs)) ≡ cons_option (option_and_then k o) (filter_map k (filter_map h xs))
    by None = refl
    by (Some y) = refl

-- one muted alert more, as it is listed
pub listed-more : (ms : List Member) (found : List MutedIndex) (i : ℕ) (one : MutedIndex) → i < length found → one ≡ get_or found i one
    → filter_map (alert_there ms) (take (i + 1) found) ≡ filter_map (alert_there ms) (take i found) ++ cons_option (alert_there ms one) []
listed-more ms found i one within is =
    ap (filter_map (alert_there ms)) (take_more found i one within ∙ ap (λ y. take i found ++ y ∷ []) (sym is))
    ∙ filter_map-append (alert_there ms) (take i found) (one ∷ [])

-- what is found of elements that are made of others
filter_map-map : {X Y Z : Type 0} (f : X → Y) (h : Y → Option Z) (xs : List X) → filter_map h (map f xs) ≡ filter_map (λ x. h (f x)) xs
filter_map-map f h [] = refl
filter_map-map f h (x ∷ xs) = ap (cons_option (h (f x))) (filter_map-map f h xs)

-- ---- by indexes

abbrev by_index : MutedIndex → MutedIndex → Ordering
by_index a b = nat_cmp a.index b.index

by_index_total : IsTotalOrder by_index
by_index_total = on_total (λ (m : MutedIndex). m.index) nat_cmp_total

-- each of these is at this index or behind it
abbrev AreFrom : ℕ → List MutedIndex → Type 0
AreFrom n found = AllByRecursion (λ m. n ≤ m.index) found

are_further : (n : ℕ) (found : List MutedIndex) → AreFrom (n + 1) found → AreFrom n found
are_further n [] from = tt
are_further n (m ∷ found) from = (omega (arith, from.0), are_further n found from.1)

-- what is before all of these ties with none
no_ties : (m : MutedIndex) (found : List MutedIndex) → AreFrom (m.index + 1) found → AllByRecursion (λ w. eq_by_cmp by_index m w ≡ false) found
no_ties m [] from = tt
no_ties m (w ∷ found) from = (apart m.index w.index from.0, no_ties m found from.1)
  where
    apart : (a b : ℕ) → a + 1 ≤ b → eq_by_cmp nat_cmp a b ≡ false
    apart a b below = grind (arith, nat_tests, below)

-- and comes before them
comes_first : (m : MutedIndex) (found : List MutedIndex) → AreFrom (m.index + 1) found → put_in_order by_index m found ≡ m ∷ found
comes_first m [] from = refl
comes_first m (w ∷ found) from = ap (λ b. cond b (w ∷ put_in_order by_index m found) (m ∷ w ∷ found)) (below m.index w.index from.0)
  where
    below : (a b : ℕ) → a + 1 ≤ b → is_gt (nat_cmp a b) ≡ false
    below a b above = grind (arith, nat_tests, above)

module _ (causes : Member → Option MuteCause) (ms : List Member) where
  abbrev here : ℕ → Option MutedIndex
  here = muted_at causes ms

  -- what is found at an index has it
  placed : (p : ℕ) (m : MutedIndex) → here p ≡ Some m → m.index ≡ p
  placed p m e = by (slice_get ms p) e
    where
      if_muted : (o : Option MuteCause) → muted_if p o ≡ Some m → m.index ≡ p
      if_muted None e = absurd (cc)
      if_muted (Some cause) e = cc

      by : (o : Option Member) → option_and_then (λ n. muted_if p (causes n)) o ≡ Some m → m.index ≡ p
      by None e = absurd (cc)
      by (Some n) e = if_muted (causes n) e

  -- what is found at indexes one after the other
  from_on : (a n : ℕ) → AreFrom a (filter_map here (range_with_len a n))
  from_on a zero = tt
  from_on a (suc n) = by (here a) refl (from_on (a + 1) n)
    where
      by : (o : Option MutedIndex) → here a ≡ o → AreFrom (a + 1) (filter_map here (range_with_len (a + 1) n)) → AreFrom a (cons_option o (filter_map here (range_with_len (a + 1) n)))
      by None e rest = are_further a (filter_map here (range_with_len (a + 1) n)) rest
      by (Some m) e rest = (omega (arith, placed a m e), are_further a (filter_map here (range_with_len (a + 1) n)) rest)

  behind : (a : ℕ) (m : MutedIndex) → here a ≡ Some m → (found : List MutedIndex) → AreFrom (a + 1) found → AreFrom (m.index + 1) found
  behind a m e found from = subst (λ p. AreFrom (p + 1) found) (sym (placed a m e)) from

  in_turn : (a n : ℕ) → in_order by_index (filter_map here (range_with_len a n)) ≡ filter_map here (range_with_len a n)
  in_turn a zero = refl
  in_turn a (suc n) = by (here a) refl (from_on (a + 1) n) (in_turn (a + 1) n)
    where
      by : (o : Option MutedIndex) → here a ≡ o → AreFrom (a + 1) (filter_map here (range_with_len (a + 1) n))
          → in_order by_index (filter_map here (range_with_len (a + 1) n)) ≡ filter_map here (range_with_len (a + 1) n)
          → in_order by_index (cons_option o (filter_map here (range_with_len (a + 1) n))) ≡ cons_option o (filter_map here (range_with_len (a + 1) n))
      by None e from rest = rest
      by (Some m) e from rest = ap (put_in_order by_index m) rest ∙ comes_first m (filter_map here (range_with_len (a + 1) n)) (behind a m e (filter_map here (range_with_len (a + 1) n)) from)

  all_apart : (a n : ℕ) → IsDistinct (eq_by_cmp by_index) (filter_map here (range_with_len a n))
  all_apart a zero = IsDistinct-nil (eq_by_cmp by_index)
  all_apart a (suc n) = by (here a) refl (from_on (a + 1) n) (all_apart (a + 1) n)
    where
      by : (o : Option MutedIndex) → here a ≡ o → AreFrom (a + 1) (filter_map here (range_with_len (a + 1) n))
          → IsDistinct (eq_by_cmp by_index) (filter_map here (range_with_len (a + 1) n))
          → IsDistinct (eq_by_cmp by_index) (cons_option o (filter_map here (range_with_len (a + 1) n)))
      by None e from rest = rest
      by (Some m) e from rest =
          IsDistinct-cons (eq_by_cmp by_index) m (filter_map here (range_with_len (a + 1) n))
          (no_ties m (filter_map here (range_with_len (a + 1) n)) (behind a m e (filter_map here (range_with_len (a + 1) n)) from)) rest

  -- a member that is found muted at an index, as it is listed
  as_listed : (o : Option Member) (p : ℕ) → slice_get ms p ≡ o
      → option_and_then (alert_there ms) (option_and_then (λ n. muted_if p (causes n)) o) ≡ option_and_then (muted_member causes) o
  as_listed None p e = refl
  as_listed (Some m) p e = by (causes m)
    where
      by : (c : Option MuteCause) → option_and_then (alert_there ms) (muted_if p c) ≡ option_and_then (λ n. option_and_then (λ cause. Some (record { labels = n.alert.labels; cause = cause })) c) (Some m)
      by None = refl
      by (Some cause) = ap (λ (o : Option Member). option_and_then (λ n. Some (record { labels = n.alert.labels; cause = cause })) o) e

  -- all members that are muted, as they are listed
  all_listed : filter_map (alert_there ms) (filter_map here (range_with_len 0 (length ms))) ≡ filter_map (muted_member causes) ms
  all_listed =
      filter_map-twice here (alert_there ms) (range_with_len 0 (length ms))
      ∙ ap (λ (h : ℕ → Option MutedAlert). filter_map h (range_with_len 0 (length ms))) (λ i p. as_listed (slice_get ms p) p refl i)
      ∙ sym (filter_map-map (slice_get ms) (option_and_then (muted_member causes)) (range_with_len 0 (length ms)))
      ∙ ap (filter_map (option_and_then (muted_member causes))) (all_there ms)
      ∙ filter_map-map Some (option_and_then (muted_member causes)) ms

  -- those that are found in the order of labels, sorted by their indexes
  pub sorted_listed : {F : Type 0} {g : Mut F (Bor MutedIndex × (Bor MutedIndex × Unit {0})) Ordering} {f : F} (xs ys : List MutedIndex)
      → xs ≡ filter_map here (indexes_in_order (map labels_of ms)) → IsPermutation xs ys
      → ((lt : MutedIndex → MutedIndex → Bool) → IsStrictWeakOrder lt → ComparesAs g lt f → IsSortedBy lt ys)
      → ((a : Bor MutedIndex × (Bor MutedIndex × Unit {0})) (r : Ordering) (f' : F) → Called g f a r f' → (r ≡ nat_cmp a.0.now.index a.1.0.now.index) × (f' ≡ f))
      → filter_map (alert_there ms) ys ≡ filter_map (muted_member causes) ms
  sorted_listed xs ys are moved sorted answers =
      let sets = map labels_of ms in
      let range = range_with_len 0 (length sets) in
      let found = filter_map here range in
      let moves : IsPermutation found xs =
      subst (IsPermutation found) (sym are) (filter_map-permutation here range (indexes_in_order sets) (in_order-moves (index_cmp sets) range)) in
      let apart : IsDistinct (eq_by_cmp by_index) xs =
      IsDistinct-permutation (eq_by_cmp by_index) (eq_by_cmp_equiv by_index_total) found xs moves (all_apart 0 (length sets)) in
      let turn : ys ≡ found =
      sort_by_is_in_order by_index by_index_total xs ys moved sorted answers apart
      ∙ sym (in_order-permutation by_index by_index_total found xs moves (all_apart 0 (length sets)))
      ∙ in_turn 0 (length sets) in
      ap (filter_map (alert_there ms)) (turn ∙ ap (λ n. filter_map here (range_with_len 0 n)) (length-map ms labels_of)) ∙ all_listed

-- the muted members as they are listed are the muted alerts of a preview
pub as_muted_alerts : (config : Config) (s : State) (t : ℕ) (ms : List Member)
    → filter_map (muted_member (cause_of config.rules s t)) ms ≡ filter_map (muted_alert config s t) (map member_state ms)
as_muted_alerts config s t ms = sym (filter_map-map member_state (muted_alert config s t) ms)
