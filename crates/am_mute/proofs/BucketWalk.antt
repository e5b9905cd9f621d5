-- A walk over the keys of one bucket: what the first source among their alerts says of all known alerts.
use Rattle.std.proofs.Common.{◌≡◌, ℕ, zero, suc, ◌<◌, ◌≤◌, Bool, true, false, true≢false, cond, not, ◌&&◌, ◌||◌, List, [], ◌∷◌, length}
use Rattle.std.proofs.Common.{get_or, take, filter, find, Some, None, refl, inl, inr, ◌⊎◌, sym, ap, ◌∙◌, arith}
use Rattle.std.specs.Prelude.{All}
use Rattle.std.specs.List.{AllByRecursion}
use Rattle.std.specs.List.Sorted.{IsStrictlySortedBy}
use Rattle.std.specs.Ordering.{MatchOrdering, is_eq, is_gt, is_le, nat_cmp, ordering_then}
use Rattle.std.specs.declared.cmp.Ordering.{Ordering}
use Rattle.std.specs.declared.cmp.Ordering.TheVariants.{Less, Equal, Greater}
use Rattle.std.proofs.lemmas.Cmp.{ranked}
use Rattle.std.proofs.lemmas.List.{get_or_default, take_all}
use Rattle.std.proofs.lemmas.List.Elements.{All-head, All-tail}
use Rattle.std.proofs.lemmas.Map.Keys.{sorted_tail}
use Rattle.am_alerts.proofs.Finding.{find_here}
use Rattle.am_mute.specs.Sources.{key_cmp, has_key, IsAt}
use Rattle.am_mute.specs.declared.sources.SourceKey.{SourceKey}
use Rattle.am_mute.proofs.SourceKeys.{key-is}

pub not_true : (b : Bool) → (b ≡ true → ⊥) → b ≡ false
not_true true h = absurd (h refl)
not_true false h = refl

-- ---- the first element that passes

-- none of the first elements passes
pub none_before : {X : Type 0} (test : X → Bool) (xs : List X) (n : ℕ) → ((j : ℕ) (x : X) → IsAt xs j x → j < n → test x ≡ false)
    → find test (take n xs) ≡ None
none_before test [] zero h = refl
none_before test [] (suc n) h = refl
none_before test (x ∷ xs) zero h = refl
none_before test (x ∷ xs) (suc n) h =
    ap (λ b. cond b (Some x) (find test (take n xs))) (h 0 x (omega arith, refl) (omega arith))
    ∙ none_before test xs n (λ j y at less. h (suc j) y (omega (arith, at.0), at.1) (omega (arith, less)))

-- ---- numbers in order

same_number : (o : Ordering) (n : ℕ) → MatchOrdering o (n < n) (n ≡ n) (n < n) → o ≡ Equal
same_number Less n h = absurd (omega (arith, h))
same_number Equal n h = refl
same_number Greater n h = absurd (omega (arith, h))

-- a number ties with itself
tied_number : (n : ℕ) → nat_cmp n n ≡ Equal
tied_number n = same_number (nat_cmp n n) n (ranked n n (nat_cmp n n) refl)

less_number : (o : Ordering) (m n : ℕ) → MatchOrdering o (m < n) (m ≡ n) (n < m) → o ≡ Less → m < n
less_number Less m n h e = h
less_number Equal m n h e = absurd (cc)
less_number Greater m n h e = absurd (cc)

up_to : (o p : Ordering) (m n : ℕ) → MatchOrdering o (m < n) (m ≡ n) (n < m) → is_gt (ordering_then o p) ≡ false → m ≤ n
up_to Less p m n h e = omega (arith, h)
up_to Equal p m n h e = omega (arith, h)
up_to Greater p m n h e = absurd (true≢false e)

after_tie : (o p : Ordering) → o ≡ Equal → ordering_then o p ≡ p
after_tie o p e = ap (λ x. ordering_then x p) e

-- what lies between two that have the same first number has it too
between : (m n : ℕ) (p q : Ordering) → is_gt (ordering_then (nat_cmp m n) p) ≡ false → is_gt (ordering_then (nat_cmp n m) q) ≡ false → n ≡ m
between m n p q low high =
    let up : m ≤ n = up_to (nat_cmp m n) p m n (ranked m n (nat_cmp m n) refl) low in
    let down : n ≤ m = up_to (nat_cmp n m) q n m (ranked n m (nat_cmp n m) refl) high in
    omega (arith, up, down)

-- ---- the keys of one bucket

module _ (number hash : ℕ) where
  -- the key of the bucket at an index
  abbrev pub at_index : ℕ → SourceKey
  at_index i = record { rule = number; hash = hash; index = i }

  -- a key is of the bucket
  abbrev pub IsOfBucket : SourceKey → Type 0
  IsOfBucket k = (k.rule ≡ number) × (k.hash ≡ hash)

  its : (k : SourceKey) → IsOfBucket k → k ≡ at_index k.index
  its k h = λ i. record { rule = h.0 i; hash = h.1 i; index = k.index }

  -- the keys of one bucket are in the order of their indexes
  by_index : (i j : ℕ) → key_cmp (at_index i) (at_index j) ≡ nat_cmp i j
  by_index i j =
      after_tie (nat_cmp number number) (ordering_then (nat_cmp hash hash) (nat_cmp i j)) (tied_number number)
      ∙ after_tie (nat_cmp hash hash) (nat_cmp i j) (tied_number hash)

  -- what lies between two keys of the bucket is of it
  pub of_bucket : (i j : ℕ) (k : SourceKey) → is_gt (key_cmp (at_index i) k) ≡ false → is_gt (key_cmp k (at_index j)) ≡ false → IsOfBucket k
  of_bucket i j k low high =
      let rule : k.rule ≡ number = between number k.rule _ _ low high in
      let tie : nat_cmp number k.rule ≡ Equal = ap (nat_cmp number) rule ∙ tied_number number in
      let tie_too : nat_cmp k.rule number ≡ Equal = ap (λ n. nat_cmp n number) rule ∙ tied_number number in
      let low_hash : is_gt (ordering_then (nat_cmp hash k.hash) (nat_cmp i k.index)) ≡ false =
      ap is_gt (sym (after_tie (nat_cmp number k.rule) _ tie)) ∙ low in
      let high_hash : is_gt (ordering_then (nat_cmp k.hash hash) (nat_cmp k.index j)) ≡ false =
      ap is_gt (sym (after_tie (nat_cmp k.rule number) _ tie_too)) ∙ high in
      (rule, between hash k.hash _ _ low_hash high_hash)

  -- a key of the bucket that is before the key at an index has an index below it
  pub index_below : (j : ℕ) (k : SourceKey) → IsOfBucket k → key_cmp k (at_index j) ≡ Less → k.index < j
  index_below j k of less =
      let after : nat_cmp k.index j ≡ Less = sym (by_index k.index j) ∙ (ap (λ q. key_cmp q (at_index j)) (sym (its k of)) ∙ less) in
      less_number (nat_cmp k.index j) k.index j (ranked k.index j (nat_cmp k.index j) refl) after

  low : (o : Ordering) (i : ℕ) → MatchOrdering o (0 < i) (0 ≡ i) (i < 0) → is_le o ≡ true
  low Less i h = refl
  low Equal i h = refl
  low Greater i h = absurd (omega (arith, h))

  high : (o : Ordering) (len i : ℕ) → MatchOrdering o (len < i) (len ≡ i) (i < len) → i < len → not (is_le o) ≡ true
  high Less len i h less = absurd (omega (arith, h, less))
  high Equal len i h less = absurd (omega (arith, h, less))
  high Greater len i h less = refl

  -- the keys of the bucket with indexes below a length are between its ends
  pub in_bucket : (len i : ℕ) → i < len
      → (is_le (key_cmp (at_index 0) (at_index i)) && not (is_le (key_cmp (at_index len) (at_index i)))) ≡ true
  in_bucket len i less =
      ap (λ o. is_le o && not (is_le (key_cmp (at_index len) (at_index i)))) (by_index 0 i)
      ∙ (ap (λ b. b && not (is_le (key_cmp (at_index len) (at_index i)))) (low (nat_cmp 0 i) i (ranked 0 i (nat_cmp 0 i) refl))
      ∙ (ap (λ o. not (is_le o)) (by_index len i) ∙ high (nat_cmp len i) len i (ranked len i (nat_cmp len i) refl) less))

-- a key that passes is among those that a filter keeps
pub kept_key : (test : SourceKey → Bool) (keys : List SourceKey) (q : SourceKey) → test q ≡ true → has_key keys q ≡ true
    → has_key (filter test keys) q ≡ true
kept_key test [] q passes h = h
kept_key test (k ∷ keys) q passes h =
    elim (is_eq (key_cmp q k)) as (λ b. is_eq (key_cmp q k) ≡ b → (b || has_key keys q) ≡ true
    → has_key (cond (test k) (k ∷ filter test keys) (filter test keys)) q ≡ true) [
      | true ↦ λ tied there.
          ap (λ b. has_key (cond b (k ∷ filter test keys) (filter test keys)) q) (ap test (sym (key-is q k tied)) ∙ passes)
          ∙ ap (λ b. b || has_key (filter test keys) q) tied
      | false ↦ λ tied there. behind (test k) (kept_key test keys q passes there)
    ] refl h
  where
    or_true : (b : Bool) → (b || true) ≡ true
    or_true true = refl
    or_true false = refl

    behind : (b : Bool) → has_key (filter test keys) q ≡ true → has_key (cond b (k ∷ filter test keys) (filter test keys)) q ≡ true
    behind true there = ap (λ x. is_eq (key_cmp q k) || x) there ∙ or_true (is_eq (key_cmp q k))
    behind false there = there

-- ---- keys in order

-- a key that is among those behind another is behind it
behind_key : (k q : SourceKey) (keys : List SourceKey) → AllByRecursion (λ y. key_cmp k y ≡ Less) keys → has_key keys q ≡ true
    → key_cmp k q ≡ Less
behind_key k q [] h e = absurd (true≢false (sym e))
behind_key k q (y ∷ ys) h e =
    elim (is_eq (key_cmp q y)) as (λ b. is_eq (key_cmp q y) ≡ b → (b || has_key ys q) ≡ true → key_cmp k q ≡ Less) [
      | true ↦ λ tied there. ap (key_cmp k) (key-is q y tied) ∙ h.0
      | false ↦ λ tied there. behind_key k q ys h.1 there
    ] refl e

-- a key that is left is the next one or behind it
next_or_behind : (k : SourceKey) (keys : List SourceKey) → IsStrictlySortedBy key_cmp (k ∷ keys) → (q : SourceKey)
    → has_key (k ∷ keys) q ≡ true → (q ≡ k) ⊎ (key_cmp k q ≡ Less)
unfolding IsStrictlySortedBy
next_or_behind k keys sorted q h =
    elim (is_eq (key_cmp q k)) as (λ b. is_eq (key_cmp q k) ≡ b → (b || has_key keys q) ≡ true → (q ≡ k) ⊎ (key_cmp k q ≡ Less)) [
      | true ↦ λ tied there. inl (key-is q k tied)
      | false ↦ λ tied there. inr (behind_key k q keys sorted.0 there)
    ] refl h

-- ---- the walk, where these keys of the bucket are left

module _ {X : Type 0} (test : X → Bool) (xs : List X) (number hash : ℕ) where
  -- each element that passes has its key among them
  abbrev pub IsAhead : List SourceKey → Type 0
  IsAhead keys = (i : ℕ) (x : X) → IsAt xs i x → test x ≡ true → has_key keys (at_index number hash i) ≡ true

  -- a key of the bucket, of one of the elements
  abbrev pub IsNear : SourceKey → Type 0
  IsNear k = IsOfBucket number hash k × (k.index < length xs)

  -- these keys are left: they are in order, and each element that passes has its own among them
  pub record AreLeft (keys : List SourceKey) : Type 0 where
    pub sorted : IsStrictlySortedBy key_cmp keys
    pub near : All IsNear keys
    pub ahead : IsAhead keys

  -- all keys were passed
  pub walk_ends : AreLeft [] → find test xs ≡ None
  walk_ends left =
      sym (ap (find test) (take_all (length xs) xs (omega arith)))
      ∙ none_before test xs (length xs) (λ j y at less. not_true (test y) (λ passes. true≢false (sym (left.ahead j y at passes))))

  module _ (k : SourceKey) (keys : List SourceKey) (x : X) (here : x ≡ get_or xs k.index x) (left : AreLeft (k ∷ keys)) where
    near : IsNear k
    near = All-head IsNear k keys left.near

    -- the element of the next key doesn't pass
    pub walk_passes : test x ≡ false → AreLeft keys
    walk_passes fails = record { sorted = sorted_tail key_cmp k keys left.sorted; near = All-tail IsNear k keys left.near; ahead = ahead }
      where
        ahead : IsAhead keys
        ahead i y at passes =
            elim (is_eq (key_cmp (at_index number hash i) k)) as
            (λ b. is_eq (key_cmp (at_index number hash i) k) ≡ b → (b || has_key keys (at_index number hash i)) ≡ true
            → has_key keys (at_index number hash i) ≡ true) [
              | true ↦ λ tied there.
                  let index : i ≡ k.index = ap (λ (q : SourceKey). q.index) (key-is (at_index number hash i) k tied) in
                  let same : y ≡ x = at.1 ∙ (ap (λ j. get_or xs j y) index ∙ (get_or_default xs k.index y x near.1 ∙ sym here)) in
                  absurd (true≢false (sym passes ∙ (ap test same ∙ fails)))
              | false ↦ λ tied there. there
            ] refl (left.ahead i y at passes)

    -- the element of the next key passes
    pub walk_takes : test x ≡ true → find test xs ≡ Some x
    walk_takes passes = find_here test xs k.index x x near.1 here (none_before test xs k.index before) passes
      where
        before : (j : ℕ) (y : X) → IsAt xs j y → j < k.index → test y ≡ false
        before j y at less =
            not_true (test y) (λ passes_too.
            elim (next_or_behind k keys left.sorted (at_index number hash j) (left.ahead j y at passes_too)) [
              | inl e ↦ let index : j ≡ k.index = ap (λ (q : SourceKey). q.index) e in omega (arith, index, less)
              | inr e ↦
                  let up : k.index < j = index_below number hash j k near.0 e in
                  omega (arith, up, less)
            ])
