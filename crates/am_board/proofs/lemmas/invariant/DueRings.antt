-- Keys that rise: what stays of that, and which keys are there, as keys come and go.
use Rattle.std.proofs.Common.{◌≡◌, ℕ, zero, suc, ◌+◌, ◌<◌, Bool, true, false, true≢false, ◌||◌, Option, Some, None, List, [], ◌∷◌, ◌++◌, length, get_or, slice_get, refl, sym, ap, ◌∙◌, subst, arith}
use Rattle.std.specs.Prelude.{IfSome, unwrap_or}
use Rattle.std.specs.List.{AllByRecursion}
use Rattle.std.specs.List.Sorted.{IsStrictlySortedBy}
use Rattle.std.specs.Option.{option_to_list}
use Rattle.std.specs.Ordering.{is_eq, is_gt, is_lt, ordering_reverse}
use Rattle.std.specs.declared.cmp.Ordering.{Ordering}
use Rattle.std.specs.declared.cmp.Ordering.TheVariants.{Less, Equal, Greater}
use Rattle.std.proofs.lemmas.List.Folds.{list_any-append}
use Rattle.std.proofs.lemmas.Option.{slice_get-get_or}
use Rattle.am_model.specs.State.{same_name}
use Rattle.am_model.specs.declared.group.GroupName.{GroupName}
use Rattle.am_model.proofs.states.Alike.{same_name-is}
use Rattle.am_board.specs.DueOrder.{has_key, key_at, key_cmp, key_cmp_total, AreRising}
use Rattle.am_board.specs.declared.due.DueKey.{DueKey}

-- a key of this time and name
pub key_called : (key : DueKey) (name : GroupName) (due : ℕ) → key.due ≡ due → same_name key.name name ≡ true → key ≡ key_at name due
key_called key name due time same =
    let called = same_name-is key.name name same in
    λ i. key_at (called i) (time i)

-- ---- a key comes behind all others

pub lt_less : (o : Ordering) → is_lt o ≡ true → o ≡ Less
lt_less Less lt = refl
lt_less Equal lt = absurd (true≢false (sym lt))
lt_less Greater lt = absurd (true≢false (sym lt))

-- what holds of a list and of one more
and_last : (P : DueKey → Type 0) (keys : List DueKey) (k : DueKey) → AllByRecursion P keys → P k → AllByRecursion P (keys ++ k ∷ [])
and_last P [] k h p = (p, tt)
and_last P (y ∷ ys) k h p = (h.0, and_last P ys k h.1 p)

-- a key behind the last is behind all
behind_all : (keys : List DueKey) (n : ℕ) (last k : DueKey) → AreRising keys → length keys ≡ n + 1 → last ≡ get_or keys n last → key_cmp k last ≡ Less
    → AllByRecursion (λ q. key_cmp k q ≡ Less) keys
unfolding IsStrictlySortedBy
behind_all [] n last k rising count at less = tt
behind_all (y ∷ []) zero last k rising count at less = (ap (key_cmp k) (sym at) ∙ less, tt)
behind_all (y ∷ []) (suc n) last k rising count at less = absurd (omega (arith, count))
behind_all (y ∷ z ∷ zs) zero last k rising count at less = absurd (omega (arith, count))
behind_all (y ∷ z ∷ zs) (suc n) last k rising count at less =
    let rest = behind_all (z ∷ zs) n last k rising.1 (omega (arith, count)) at less in
    (key_cmp_total.trans k z y rest.0 rising.0.0, rest)

rise_snoc : (keys : List DueKey) (k : DueKey) → AreRising keys → AllByRecursion (λ q. key_cmp k q ≡ Less) keys → AreRising (keys ++ k ∷ [])
unfolding IsStrictlySortedBy
rise_snoc [] k rising h = (tt, tt)
rise_snoc (y ∷ ys) k rising h = (and_last (λ z. key_cmp z y ≡ Less) ys k rising.0 h.0, rise_snoc ys k rising.1 h.1)

pub rise_behind : (keys : List DueKey) (n : ℕ) (last k : DueKey) → AreRising keys → length keys ≡ n + 1 → last ≡ get_or keys n last → key_cmp k last ≡ Less
    → AreRising (keys ++ k ∷ [])
rise_behind keys n last k rising count at less = rise_snoc keys k rising (behind_all keys n last k rising count at less)

-- where there is none, one rises
pub rise_alone : (keys : List DueKey) (k : DueKey) → length keys ≡ 0 → AreRising (keys ++ k ∷ [])
unfolding IsStrictlySortedBy
rise_alone [] k none = (tt, tt)
rise_alone (y ∷ ys) k none = absurd (omega (arith, none))

pub rise_none : AreRising []
unfolding IsStrictlySortedBy
rise_none = tt

-- ---- the first key goes

-- the others rise
pub rise_popped : (o : Option DueKey) (old new : List DueKey) → old ≡ option_to_list o ++ new → AreRising old → AreRising new
unfolding IsStrictlySortedBy
rise_popped None old new is rising = subst AreRising is rising
rise_popped (Some k) old new is rising = (subst AreRising is rising).1

-- the key that goes is the one that was first
pub first_is : (o : Option DueKey) (old new : List DueKey) (key : DueKey) → slice_get old 0 ≡ Some key → old ≡ option_to_list o ++ new → IfSome o (λ k. k ≡ key)
first_is None old new key at is = tt
first_is (Some k) old new key at is =
    ap (λ (o : Option DueKey). unwrap_or o k) (sym (ap (λ (ks : List DueKey). slice_get ks 0) is) ∙ at)

-- and other keys stay
pub first_keeps : (o : Option DueKey) (old new : List DueKey) (key other : DueKey) → slice_get old 0 ≡ Some key → old ≡ option_to_list o ++ new
    → is_eq (key_cmp other key) ≡ false → has_key new other ≡ has_key old other
first_keeps None old new key other at is apart = ap (λ (ks : List DueKey). has_key ks other) (sym is)
first_keeps (Some k) old new key other at is apart =
    let same : k ≡ key = first_is (Some k) old new key at is in
    let differs : is_eq (key_cmp other k) ≡ false = ap (λ (x : DueKey). is_eq (key_cmp other x)) same ∙ apart in
    sym (ap (λ (ks : List DueKey). has_key ks other) is ∙ ap (λ b. b || has_key new other) differs)

-- ---- the key of an index

-- a key of this time and name is there
pub key_is_there : (keys : List DueKey) (i : ℕ) (key : DueKey) (name : GroupName) (due : ℕ) → i < length keys → key ≡ get_or keys i key → key.due ≡ due
    → same_name key.name name ≡ true → slice_get keys i ≡ Some (key_at name due)
key_is_there keys i key name due within holds time same =
    slice_get-get_or keys i key within ∙ ap (λ (k : DueKey). Some k) (sym holds ∙ key_called key name due time same)

-- ---- two lists

pub in_second : (a b : Bool) → b ≡ true → (a || b) ≡ true
in_second true b h = refl
in_second false b h = h

pub in_first : (a b : Bool) → a ≡ true → (a || b) ≡ true
in_first true b h = refl
in_first false b h = absurd (true≢false (sym h))

-- what is in one of two lists is, if it stays in both
pub either_stays : (a b c d : Bool) → (a ≡ true → c ≡ true) → (b ≡ true → d ≡ true) → (a || b) ≡ true → (c || d) ≡ true
either_stays true b c d f g h = in_first c d (f refl)
either_stays false b c d f g h = in_second c d (g h)

-- ---- a key was put behind all others

pub self_tied : (o : Ordering) → o ≡ ordering_reverse o → is_eq o ≡ true
self_tied Less same = absurd (true≢false (sym (ap is_gt same)))
self_tied Equal same = refl
self_tied Greater same = absurd (true≢false (ap is_gt same))

pub pushed_has : (keys : List DueKey) (k : DueKey) → has_key (keys ++ k ∷ []) k ≡ true
pushed_has keys k =
    let here : is_eq (key_cmp k k) ≡ true = self_tied (key_cmp k k) (key_cmp_total.antisymm k k) in
    list_any-append (λ x. is_eq (key_cmp k x)) keys (k ∷ [])
    ∙ in_second (has_key keys k) (is_eq (key_cmp k k) || false) (in_first (is_eq (key_cmp k k)) false here)

pub pushed_keeps : (keys : List DueKey) (k other : DueKey) → has_key keys other ≡ true → has_key (keys ++ k ∷ []) other ≡ true
pushed_keeps keys k other had =
    list_any-append (λ x. is_eq (key_cmp other x)) keys (k ∷ []) ∙ in_first (has_key keys other) (is_eq (key_cmp other k) || false) had
