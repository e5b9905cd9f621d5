-- Keys of sources: their order, and what an index has after one more.
use Rattle.std.proofs.Common.{◌≡◌, ℕ, Bool, true, false, true≢false, cond, List, refl, sym, ◌∙◌, eqb-true}
use Rattle.std.specs.Cmp.{IsTotalOrder, unsigned_ties}
use Rattle.std.specs.Ordering.{is_eq, ordering_then, nat_cmp}
use Rattle.std.specs.declared.cmp.Ordering.{Ordering}
use Rattle.std.specs.declared.cmp.Ordering.TheVariants.{Less, Equal, Greater}
use Rattle.std.proofs.lemmas.Cmp.{nat_cmp_total, on_total, then_total}
use Rattle.am_mute.specs.Sources.{key_cmp, has_key, HasKey}
use Rattle.am_mute.specs.declared.sources.SourceKey.{SourceKey}

-- ---- the order of keys

pub key_cmp_total : IsTotalOrder key_cmp
key_cmp_total =
    then_total (on_total (λ (k : SourceKey). k.rule) nat_cmp_total)
    (then_total (on_total (λ (k : SourceKey). k.hash) nat_cmp_total) (on_total (λ (k : SourceKey). k.index) nat_cmp_total))

-- both orders tie where one after the other does
tied_both : (o p : Ordering) → is_eq (ordering_then o p) ≡ true → (is_eq o ≡ true) × (is_eq p ≡ true)
tied_both Less p h = absurd (true≢false (sym h))
tied_both Equal p h = (refl, h)
tied_both Greater p h = absurd (true≢false (sym h))

tied_numbers : (m n : ℕ) → is_eq (nat_cmp m n) ≡ true → m ≡ n
tied_numbers m n tied = eqb-true m n (unsigned_ties m n ∙ tied)

-- keys that tie are one
pub key-is : (a b : SourceKey) → is_eq (key_cmp a b) ≡ true → a ≡ b
key-is a b tied =
    let parts = tied_both (nat_cmp a.rule b.rule) (ordering_then (nat_cmp a.hash b.hash) (nat_cmp a.index b.index)) tied in
    let rest = tied_both (nat_cmp a.hash b.hash) (nat_cmp a.index b.index) parts.1 in
    let rule : a.rule ≡ b.rule = tied_numbers a.rule b.rule parts.0 in
    let hash : a.hash ≡ b.hash = tied_numbers a.hash b.hash rest.0 in
    let index : a.index ≡ b.index = tied_numbers a.index b.index rest.1 in
    λ i. record { rule = rule i; hash = hash i; index = index i }

-- ---- one key more

-- what was there is there, with one more
had_or : (b had : Bool) → had ≡ true → cond b true had ≡ true
had_or true had h = refl
had_or false had h = h

-- the keys that there were are there, after one more was put in
pub keeps_keys : (key : SourceKey) (old new : List SourceKey)
    → ((q : SourceKey) → has_key new q ≡ cond (is_eq (key_cmp key q)) true (has_key old q))
    → (k : SourceKey) → HasKey old k → HasKey new k
keeps_keys key old new updates k had = updates k ∙ had_or (is_eq (key_cmp key k)) (has_key old k) had
