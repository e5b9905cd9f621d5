-- Keys in a heap: which are there as keys come and go.
use Rattle.std.proofs.Common.{◌≡◌, true, false, ◌||◌, Option, Some, None, List, ◌∷◌, get_or, slice_get, sym, ap, ◌∙◌}
use Rattle.std.specs.Prelude.{IfNone, IfSome, IsPermutation}
use Rattle.std.specs.Ordering.{is_eq}
use Rattle.std.proofs.lemmas.List.{get_or_default}
use Rattle.std.proofs.lemmas.List.Sorted.{list_any-IsPermutation}
use Rattle.am_board.proofs.lemmas.invariant.DueRings.{in_first, in_second, self_tied}
use Rattle.am_board.proofs.lemmas.invariant.Keyed.{value_at}
use Rattle.am_board.specs.DueOrder.{has_key, key_cmp, key_cmp_total}
use Rattle.am_board.specs.declared.due.DueKey.{DueKey}

-- the same keys in another order
same_keys : (a b : List DueKey) (q : DueKey) → IsPermutation a b → has_key a q ≡ has_key b q
same_keys a b q same = list_any-IsPermutation (λ k. is_eq (key_cmp q k)) a b same

-- ---- the top goes

pub popped_is : (o : Option DueKey) (old : List DueKey) (key : DueKey) → slice_get old 0 ≡ Some key → IfSome o (λ x. x ≡ get_or old 0 x) → IfSome o (λ k. k ≡ key)
popped_is None old key at top = tt
popped_is (Some k) old key at top =
    let there = value_at old 0 key at in
    top ∙ (get_or_default old 0 k key there.1 ∙ sym there.0)

pub popped_keeps : (N : Type 0) (o : Option DueKey) (old new : List DueKey) (key other : DueKey) → slice_get old 0 ≡ Some key → IfSome o (λ x. x ≡ get_or old 0 x)
    → IfSome o (λ x. IsPermutation old (x ∷ new)) → IfNone o ((new ≡ old) × N) → is_eq (key_cmp other key) ≡ false → has_key new other ≡ has_key old other
popped_keeps N None old new key other at top same left apart = ap (λ (ks : List DueKey). has_key ks other) left.0
popped_keeps N (Some k) old new key other at top same left apart =
    let is : k ≡ key = popped_is (Some k) old key at top in
    let differs : is_eq (key_cmp other k) ≡ false = ap (λ (x : DueKey). is_eq (key_cmp other x)) is ∙ apart in
    sym (same_keys old (k ∷ new) other same ∙ ap (λ b. b || has_key new other) differs)

-- ---- a key comes

pub pushed_has : (old new : List DueKey) (key : DueKey) → IsPermutation (key ∷ old) new → has_key new key ≡ true
pushed_has old new key same =
    sym (same_keys (key ∷ old) new key same)
    ∙ in_first (is_eq (key_cmp key key)) (has_key old key) (self_tied (key_cmp key key) (key_cmp_total.antisymm key key))

pub pushed_keeps : (old new : List DueKey) (key : DueKey) → IsPermutation (key ∷ old) new → (other : DueKey) → has_key old other ≡ true → has_key new other ≡ true
pushed_keeps old new key same other had =
    sym (same_keys (key ∷ old) new other same) ∙ in_second (is_eq (key_cmp other key)) (has_key old other) had
