-- Keys of flushes in flight: what one more and one less changes, and which comes first.
use Rattle.std.proofs.Common.{◌≡◌, ◌≢◌, ◌∙◌, ℕ, ◌<◌, ◌≤◌, zero, suc, Bool, true, false, cond, true≢false, List, [], ◌∷◌, length, Some, None, refl, sym, arith}
use Rattle.std.specs.List.{list_any}
use Rattle.std.specs.BTreeMap.{is_at}
use Rattle.std.specs.BTreeSet.{BTreeSet, IsLowerBound, Updates, contains}
use Rattle.std.specs.Cmp.{unsigned_ties}
use Rattle.std.specs.Ordering.{MatchOrdering, is_eq, is_gt, nat_cmp, ordering_then}
use Rattle.std.specs.declared.cmp.Ordering.{Ordering}
use Rattle.std.specs.declared.cmp.Ordering.TheVariants.{Less, Equal, Greater}
use Rattle.std.proofs.lemmas.Bool.{ne_eqb}
use Rattle.std.proofs.lemmas.Cmp.{ranked}
use Rattle.std.proofs.lemmas.Map.Keys.{le_from_not_gt}
use Rattle.am_simulation.specs.FlightKeys.{IsFirstEnd, IsFirstReady, IsPut, Keeps, KeepsOthers, key_cmp}
use Rattle.am_simulation.specs.declared.flight_keys.EndKey.{EndKey}
use Rattle.am_simulation.specs.declared.flight_keys.FlightKeys.{FlightKeys}

-- what was there is there, with one more
had_or : (b had : Bool) → had ≡ true → cond b true had ≡ true
had_or true had h = refl
had_or false had h = h

-- other numbers don't tie, and keys of other begins don't
apart_ties : (m n : ℕ) → n ≢ m → is_eq (nat_cmp m n) ≡ false
apart_ties m n apart = sym (unsigned_ties m n) ∙ ne_eqb m n (λ e. apart (sym e))

apart_then : (o p : Ordering) → is_eq p ≡ false → is_eq (ordering_then o p) ≡ false
apart_then Less p e = refl
apart_then Equal p e = e
apart_then Greater p e = refl

module _ (old : FlightKeys) where
  module _ (ready : BTreeSet ℕ) (begin : ℕ) where
    abbrev with_ready : FlightKeys
    with_ready = record old { ready = ready }

    pub put_ready : Updates nat_cmp old.ready ready begin true → old.whole ≡ true → IsPut old begin None with_ready
    put_ready updates whole = record { whole = whole; has = updates.1; keeps = keeps }
      where
        keeps : Keeps old with_ready
        keeps other None had = updates.0 other ∙ had_or (is_at (nat_cmp begin) other) (contains nat_cmp old.ready other) had
        keeps other (Some at) had = had

    pub drop_ready : Updates nat_cmp old.ready ready begin false → KeepsOthers begin old with_ready
    drop_ready updates other None apart had = updates.2 other (apart_ties begin other apart) ∙ had
    drop_ready updates other (Some at) apart had = had

  module _ (coming : BTreeSet EndKey) (key : EndKey) where
    abbrev with_coming : FlightKeys
    with_coming = record old { coming = coming }

    pub put_end : Updates key_cmp old.coming coming key true → old.whole ≡ true → IsPut old key.begin (Some key.at) with_coming
    put_end updates whole = record { whole = whole; has = updates.1; keeps = keeps }
      where
        keeps : Keeps old with_coming
        keeps other None had = had
        keeps other (Some at) had =
            let its : EndKey = record { at = at; begin = other } in
            updates.0 its ∙ had_or (is_at (key_cmp key) its) (contains key_cmp old.coming its) had

    pub drop_end : Updates key_cmp old.coming coming key false → KeepsOthers key.begin old with_coming
    drop_end updates other None apart had = had
    drop_end updates other (Some at) apart had =
        let its : EndKey = record { at = at; begin = other } in
        updates.2 its (apart_then (nat_cmp key.at at) (nat_cmp key.begin other) (apart_ties key.begin other apart)) ∙ had

-- the least key is that of the first end
pub first_end : (k : FlightKeys) (first : EndKey) → IsLowerBound key_cmp k.coming first → IsFirstEnd k first
first_end k first least begin at has =
    by (nat_cmp first.at at) (ranked first.at at (nat_cmp first.at at) refl) (least (record { at = at; begin = begin }) has)
  where
    by : (o : Ordering) → MatchOrdering o (first.at < at) (first.at ≡ at) (at < first.at)
        → is_gt (ordering_then o (nat_cmp first.begin begin)) ≡ false → (first.at ≤ at) × (begin < first.begin → first.at < at)
    by Less less h = (omega (arith, less), λ before. less)
    by Equal same h =
        let from : first.begin ≤ begin = le_from_not_gt first.begin begin h in
        (omega (arith, same), λ before. absurd (omega (arith, from, before)))
    by Greater more h = absurd (true≢false h)

pub first_ready : (k : FlightKeys) (first : ℕ) → IsLowerBound nat_cmp k.ready first → IsFirstReady k first
first_ready k first least begin has = le_from_not_gt first begin (least begin has)

-- where there are no keys, none is there
pub none_among : {K : Type 0} (test : K → Bool) (ks : List K) → length ks ≡ 0 → list_any test ks ≡ false
none_among test [] none = refl
none_among test (k ∷ ks) none = absurd (omega (arith, none))

-- a length of which it isn't true that it is more than none is none
pub no_length : (n : ℕ) → (0 < n → ⊥) → n ≡ 0
no_length zero none = refl
no_length (suc n) none = absurd (none (omega arith))
