-- Flushes in flight that have their keys: what comes first among them, and what changes keep.
use Rattle.std.proofs.Common.{◌≡◌, ◌∙◌, ℕ, ◌+◌, ◌<◌, ◌≤◌, zero, suc, Bool, true, false, nat_lt, IfSome, IsTrue, List, [], ◌∷◌, ◌++◌, Option, Some, None, refl, subst, sym, ap, arith, if◌then◌else◌}
use Rattle.std.specs.Prelude.{remove, slice_get, slice_set}
use Rattle.std.specs.Option.{IsSomeAnd}
use Rattle.std.proofs.lemmas.Bool.{false≢true}
use Rattle.std.proofs.lemmas.Bool.Decides.{nat_tests}
use Rattle.am_simulation.specs.FlightKeys.{AreKeyed, IsEndOfKey, IsFirstEnd, IsFirstReady, Keeps, KeepsOthers, has_key, next_time, time_of}
use Rattle.am_simulation.specs.Next.{earlier, next_at, next_end, next_end_of, next_finish, none_left}
use Rattle.am_simulation.specs.Scene.{SendingData}
use Rattle.am_simulation.specs.declared.flight_keys.EndKey.{EndKey}
use Rattle.am_simulation.specs.declared.flight_keys.FlightKeys.{FlightKeys}
use Rattle.am_simulation.specs.declared.next.End.{End}
use Rattle.am_simulation.specs.declared.next.Next.{Next}
use Rattle.am_simulation.specs.declared.next.Step.TheVariants as step

some_is : {X : Type 0} (x y : X) → Some x ≡ Some y → x ≡ y
some_is x y e = cc

-- ---- times of steps

time_if : (t : Bool) (m n : Next) → time_of (if t then Some m else Some n) ≡ (if t then Some m.at else Some n.at)
time_if true m n = refl
time_if false m n = refl

-- times alone decide when the earlier comes
earlier_time : (m n : Next) (a b : Option Next) → m.at ≡ n.at → time_of a ≡ time_of b → time_of (earlier (Some m) a) ≡ time_of (earlier (Some n) b)
earlier_time m n None None e f = ap (λ (k : ℕ). Some k) e
earlier_time m n None (Some y) e f = absurd (cc)
earlier_time m n (Some x) None e f = absurd (cc)
earlier_time m n (Some x) (Some y) e f =
    let g : x.at ≡ y.at = some_is x.at y.at f in
    time_if (nat_lt x.at m.at) x m
    ∙ ap (λ (k : ℕ). if nat_lt k m.at then Some k else Some m.at) g
    ∙ ap (λ (k : ℕ). if nat_lt y.at k then Some y.at else Some k) e
    ∙ sym (time_if (nat_lt y.at n.at) y n)

-- no position or index does
same_time : (p q i j : ℕ) (es : List End) → time_of (next_end_of p i es) ≡ time_of (next_end_of q j es)
same_time p q i j [] = refl
same_time p q i j (e ∷ es) =
    earlier_time (next_at e.at (step.End p i)) (next_at e.at (step.End q j)) (next_end_of p (i + 1) es) (next_end_of q (j + 1) es) refl
    (same_time p q (i + 1) (j + 1) es)

none_is : (o : Option Next) → time_of o ≡ None → o ≡ None
none_is None e = refl
none_is (Some n) e = absurd (cc)

earlier_keeps : (P : Next → Type 0) (a b : Option Next) → IfSome a P → IfSome b P → IfSome (earlier a b) P
earlier_keeps P None b p q = q
earlier_keeps P (Some n) None p q = p
earlier_keeps P (Some n) (Some m) p q =
    elim (nat_lt m.at n.at) as (λ t. IfSome (if t then Some m else Some n) P) [ true ↦ q | false ↦ p ]

-- the first of two wins where the other isn't earlier, and the second where it is
first_wins : (at : ℕ) (a b : Option Next) → time_of a ≡ Some at → IfSome b (λ n. at ≤ n.at) → earlier a b ≡ a
first_wins at None b e later = absurd (cc)
first_wins at (Some n) None e later = refl
first_wins at (Some n) (Some m) e later =
    let is : n.at ≡ at = some_is n.at at e in
    let late : at ≤ m.at = later in
    let test : nat_lt m.at n.at ≡ false = grind (arith, nat_tests) in
    ap (λ (t : Bool). if t then Some m else Some n) test

second_wins : (at : ℕ) (a b : Option Next) → time_of b ≡ Some at → IfSome a (λ n. at < n.at) → earlier a b ≡ b
second_wins at None b e later = refl
second_wins at (Some n) None e later = absurd (cc)
second_wins at (Some n) (Some m) e later =
    let is : m.at ≡ at = some_is m.at at e in
    let late : at < n.at = later in
    let test : nat_lt m.at n.at ≡ true = grind (arith, nat_tests) in
    ap (λ (t : Bool). if t then Some m else Some n) test

-- ends that are left have a time, and others have none
left_time : (es : List End) → time_of (next_end_of 0 0 es) ≡ None → es ≡ []
left_time [] e = refl
left_time (x ∷ es) e = absurd (by (next_end_of 0 1 es) (none_is (next_end_of 0 0 (x ∷ es)) e))
  where
    by : (o : Option Next) → earlier (Some (next_at x.at (step.End 0 0))) o ≡ None → ⊥
    by None e = cc
    by (Some n) e = elim (nat_lt n.at x.at) as (λ t. (if t then Some n else Some (next_at x.at (step.End 0 0))) ≡ None → ⊥) [ true ↦ λ e. cc | false ↦ λ e. cc ] e

module _ (k : FlightKeys) where
  -- ---- what comes first

  -- begins are no lower than the number from which they rise
  from_low : (low high : ℕ) (ss : List SendingData) (r : ℕ) (s : SendingData) → AreKeyed k low high ss → slice_get ss r ≡ Some s → low ≤ s.begin
  from_low low high [] r s keyed here = absurd (cc)
  from_low low high (t ∷ ss) zero s keyed here =
      let same : t.begin ≡ s.begin = ap (λ (u : SendingData). u.begin) (some_is t s here) in
      omega (arith, keyed.0, same)
  from_low low high (t ∷ ss) (suc r) s keyed here = omega (arith, keyed.0, from_low (t.begin + 1) high ss r s keyed.2 here)

  -- what holds of all keys holds of the next end of a flush that has its key
  of_own : (P : ℕ → ℕ → Type 0) (q : ℕ) (s : SendingData) → ((begin at : ℕ) → IsTrue (has_key k begin (Some at)) → P begin at)
      → IsTrue (has_key k s.begin (next_time s.ends)) → IfSome (next_end_of q 0 s.ends) (λ n. P s.begin n.at)
  of_own P q s all has = by (next_end_of q 0 s.ends) (same_time q 0 0 0 s.ends)
    where
      by : (o : Option Next) → time_of o ≡ next_time s.ends → IfSome o (λ n. P s.begin n.at)
      by None e = tt
      by (Some n) e = all s.begin n.at (subst (λ (t : Option ℕ). IsTrue (has_key k s.begin t)) (sym e) has)

  module _ (first : EndKey) (is_first : IsFirstEnd k first) where
    -- no end comes before the first key's
    none_before : (q low high : ℕ) (ss : List SendingData) → AreKeyed k low high ss → IfSome (next_end q ss) (λ n. first.at ≤ n.at)
    none_before q low high [] keyed = tt
    none_before q low high (s ∷ ss) keyed =
        earlier_keeps (λ n. first.at ≤ n.at) (next_end_of q 0 s.ends) (next_end (q + 1) ss)
        (of_own (λ begin at. first.at ≤ at) q s (λ begin at has. (is_first begin at has).0) keyed.1)
        (none_before (q + 1) (s.begin + 1) high ss keyed.2)

    -- the end of its flush comes first
    comes_first : (q low high : ℕ) (ss : List SendingData) (r : ℕ) (s : SendingData) → AreKeyed k low high ss → slice_get ss r ≡ Some s
        → s.begin ≡ first.begin → next_time s.ends ≡ Some first.at → next_end q ss ≡ next_end_of (q + r) 0 s.ends
    comes_first q low high [] r s keyed here begin at = absurd (cc)
    comes_first q low high (t ∷ ss) zero s keyed here begin at =
        let is : t ≡ s = some_is t s here in
        let time : time_of (next_end_of q 0 t.ends) ≡ Some first.at =
        same_time q 0 0 0 t.ends ∙ ap (λ (u : SendingData). next_time u.ends) is ∙ at
        in
        let place : q ≡ q + 0 = omega arith in
        first_wins first.at (next_end_of q 0 t.ends) (next_end (q + 1) ss) time (none_before (q + 1) (t.begin + 1) high ss keyed.2)
        ∙ ap (λ (u : SendingData). next_end_of q 0 u.ends) is
        ∙ ap (λ (p : ℕ). next_end_of p 0 s.ends) place
    comes_first q low high (t ∷ ss) (suc r) s keyed here begin at =
        let rest : next_end (q + 1) ss ≡ next_end_of (q + 1 + r) 0 s.ends = comes_first (q + 1) (t.begin + 1) high ss r s keyed.2 here begin at in
        let time : time_of (next_end (q + 1) ss) ≡ Some first.at = ap time_of rest ∙ same_time (q + 1 + r) 0 0 0 s.ends ∙ at in
        let before : t.begin < first.begin = omega (arith, from_low (t.begin + 1) high ss r s keyed.2 here, begin) in
        let place : q + 1 + r ≡ q + suc r = omega arith in
        second_wins first.at (next_end_of q 0 t.ends) (next_end (q + 1) ss) time
        (own before (of_own (λ b at. b < first.begin → first.at < at) q t (λ b at has. (is_first b at has).1) keyed.1))
        ∙ rest
        ∙ ap (λ (p : ℕ). next_end_of p 0 s.ends) place
      where
        own : t.begin < first.begin → IfSome (next_end_of q 0 t.ends) (λ n. t.begin < first.begin → first.at < n.at)
            → IfSome (next_end_of q 0 t.ends) (λ n. first.at < n.at)
        own before said = by (next_end_of q 0 t.ends) said
          where
            by : (o : Option Next) → IfSome o (λ n. t.begin < first.begin → first.at < n.at) → IfSome o (λ n. first.at < n.at)
            by None said = tt
            by (Some n) said = said before

    -- the same, of the flush that was found
    pub end_first : (high : ℕ) (ss : List SendingData) (n : Next) → AreKeyed k 0 high ss → IsEndOfKey ss first n → Some n ≡ next_end 0 ss
    end_first high ss n keyed found = by (slice_get ss found.0) refl found.1
      where
        by : (o : Option SendingData) → slice_get ss found.0 ≡ o
            → IsSomeAnd o (λ s. (s.begin ≡ first.begin) × (next_end_of found.0 0 s.ends ≡ Some n) × (n.at ≡ first.at)) → Some n ≡ next_end 0 ss
        by None is said = absurd said
        by (Some s) is said =
            let time : next_time s.ends ≡ Some first.at =
            same_time 0 found.0 0 0 s.ends ∙ ap time_of said.1 ∙ ap (λ (t : ℕ). Some t) said.2
            in
            let place : 0 + found.0 ≡ found.0 = omega arith in
            sym (comes_first 0 0 high ss found.0 s keyed is said.0 time ∙ ap (λ (p : ℕ). next_end_of p 0 s.ends) place ∙ said.1)

  -- where no end has a key, none is to come
  no_end : (q low high : ℕ) (ss : List SendingData) → ((begin at : ℕ) → has_key k begin (Some at) ≡ false) → AreKeyed k low high ss → next_end q ss ≡ None
  no_end q low high [] none keyed = refl
  no_end q low high (s ∷ ss) none keyed =
      ap (λ o. earlier o (next_end (q + 1) ss)) own ∙ no_end (q + 1) (s.begin + 1) high ss none keyed.2
    where
      by : (o : Option Next) → IfSome o (λ n. ⊥) → o ≡ None
      by None said = refl
      by (Some n) said = absurd said

      own : next_end_of q 0 s.ends ≡ None
      own = by (next_end_of q 0 s.ends) (of_own (λ begin at. ⊥) q s (λ begin at has. absurd (false≢true (sym (none begin at) ∙ has))) keyed.1)

  pub none_to_come : (high : ℕ) (ss : List SendingData) → ((begin at : ℕ) → has_key k begin (Some at) ≡ false) → AreKeyed k 0 high ss → None ≡ next_end 0 ss
  none_to_come high ss none keyed = sym (no_end 0 0 high ss none keyed)

  -- a flush of which no end is to come has the key of one that is ready
  has_ready : (s : SendingData) → none_left s.ends ≡ true → IsTrue (has_key k s.begin (next_time s.ends)) → IsTrue (has_key k s.begin None)
  has_ready s none has = by s.ends none has
    where
      by : (es : List End) → none_left es ≡ true → IsTrue (has_key k s.begin (next_time es)) → IsTrue (has_key k s.begin None)
      by [] none has = has
      by (e ∷ es) none has = absurd (false≢true none)

  module _ (now first : ℕ) (is_first : IsFirstReady k first) where
    ready_first : (q low high : ℕ) (ss : List SendingData) (r : ℕ) (s : SendingData) → AreKeyed k low high ss → slice_get ss r ≡ Some s
        → s.begin ≡ first → none_left s.ends ≡ true → next_finish now q ss ≡ Some (next_at now (step.Finish (q + r)))
    ready_first q low high [] r s keyed here begin none = absurd (cc)
    ready_first q low high (t ∷ ss) zero s keyed here begin none =
        let is : t ≡ s = some_is t s here in
        let place : q ≡ q + 0 = omega arith in
        ap (λ (b : Bool). if b then Some (next_at now (step.Finish q)) else next_finish now (q + 1) ss)
        (ap (λ (u : SendingData). none_left u.ends) is ∙ none)
        ∙ ap (λ (p : ℕ). Some (next_at now (step.Finish p))) place
    ready_first q low high (t ∷ ss) (suc r) s keyed here begin none =
        let place : q + 1 + r ≡ q + suc r = omega arith in
        passed q t ss (from_low (t.begin + 1) high ss r s keyed.2 here) begin keyed.1
        ∙ ready_first (q + 1) (t.begin + 1) high ss r s keyed.2 here begin none
        ∙ ap (λ (p : ℕ). Some (next_at now (step.Finish p))) place
      where
        passed : (q : ℕ) (t : SendingData) (ss : List SendingData) → t.begin + 1 ≤ s.begin → s.begin ≡ first
            → IsTrue (has_key k t.begin (next_time t.ends)) → next_finish now q (t ∷ ss) ≡ next_finish now (q + 1) ss
        passed q t ss before begin has = by (none_left t.ends) refl
          where
            by : (b : Bool) → none_left t.ends ≡ b
                → (if b then Some (next_at now (step.Finish q)) else next_finish now (q + 1) ss) ≡ next_finish now (q + 1) ss
            by true is = absurd (omega (arith, is_first t.begin (has_ready t is has), before, begin))
            by false is = refl

    -- the flush of the first key that is ready is finished first
    pub finish_first : (high : ℕ) (ss : List SendingData) (r : ℕ) → AreKeyed k 0 high ss
        → IsSomeAnd (slice_get ss r) (λ s. (s.begin ≡ first) × (s.ends ≡ [])) → Some (next_at now (step.Finish r)) ≡ next_finish now 0 ss
    finish_first high ss r keyed found = by (slice_get ss r) refl found
      where
        by : (o : Option SendingData) → slice_get ss r ≡ o → IsSomeAnd o (λ s. (s.begin ≡ first) × (s.ends ≡ []))
            → Some (next_at now (step.Finish r)) ≡ next_finish now 0 ss
        by None is said = absurd said
        by (Some s) is said =
            let place : 0 + r ≡ r = omega arith in
            sym (ready_first 0 0 high ss r s keyed is said.0 (ap none_left said.1) ∙ ap (λ (p : ℕ). Some (next_at now (step.Finish p))) place)

  no_finish : (now q low high : ℕ) (ss : List SendingData) → ((begin : ℕ) → has_key k begin None ≡ false) → AreKeyed k low high ss → next_finish now q ss ≡ None
  no_finish now q low high [] none keyed = refl
  no_finish now q low high (s ∷ ss) none keyed = by (none_left s.ends) refl (no_finish now (q + 1) (s.begin + 1) high ss none keyed.2)
    where
      by : (b : Bool) → none_left s.ends ≡ b → next_finish now (q + 1) ss ≡ None
          → (if b then Some (next_at now (step.Finish q)) else next_finish now (q + 1) ss) ≡ None
      by true is rest = absurd (false≢true (sym (none s.begin) ∙ has_ready s is keyed.1))
      by false is rest = rest

  pub none_to_finish : (now high : ℕ) (ss : List SendingData) → ((begin : ℕ) → has_key k begin None ≡ false) → AreKeyed k 0 high ss → None ≡ next_finish now 0 ss
  none_to_finish now high ss none keyed = sym (no_finish now 0 0 high ss none keyed)

  -- ---- what changes keep

  lower : (low above high : ℕ) (ss : List SendingData) → low ≤ above → AreKeyed k above high ss → AreKeyed k low high ss
  lower low above high [] less keyed = omega (arith, less, keyed)
  lower low above high (s ∷ ss) less keyed = (omega (arith, less, keyed.0), keyed.1, keyed.2)

module _ (k m : FlightKeys) where
  -- one flush more, behind the others
  pub keyed_more : (low high above : ℕ) (ss : List SendingData) (s : SendingData) → Keeps k m → AreKeyed k low high ss → high ≤ s.begin
      → above ≡ s.begin + 1 → IsTrue (has_key m s.begin (next_time s.ends)) → AreKeyed m low above (ss ++ s ∷ [])
  keyed_more low high above [] s keeps keyed behind is has = (omega (arith, keyed, behind), has, omega (arith, is))
  keyed_more low high above (t ∷ ss) s keeps keyed behind is has =
      (keyed.0, keeps t.begin (next_time t.ends) keyed.1, keyed_more (t.begin + 1) high above ss s keeps keyed.2 behind is has)

  module _ (begin : ℕ) (keeps : KeepsOthers begin k m) where
    -- flushes behind a begin keep their keys
    keyed_behind : (low high : ℕ) (ss : List SendingData) → begin < low → AreKeyed k low high ss → AreKeyed m low high ss
    keyed_behind low high [] behind keyed = keyed
    keyed_behind low high (s ∷ ss) behind keyed =
        let from : low ≤ s.begin = keyed.0 in (
          keyed.0,
          keeps s.begin (next_time s.ends) (omega (arith, behind, from)) keyed.1,
          keyed_behind (s.begin + 1) high ss (omega (arith, behind, from)) keyed.2,
        )

    -- one flush in the place of another of the same begin
    pub keyed_set : (low high : ℕ) (ss : List SendingData) (r : ℕ) (s t : SendingData) → AreKeyed k low high ss → slice_get ss r ≡ Some s
        → s.begin ≡ begin → t.begin ≡ begin → IsTrue (has_key m t.begin (next_time t.ends)) → AreKeyed m low high (slice_set ss r t)
    keyed_set low high [] r s t keyed here was is has = absurd (cc)
    keyed_set low high (u ∷ ss) zero s t keyed here was is has =
        let same : u.begin ≡ t.begin = ap (λ (v : SendingData). v.begin) (some_is u s here) ∙ was ∙ sym is in (
          omega (arith, keyed.0, same),
          has,
          subst (λ (b : ℕ). AreKeyed m (b + 1) high ss) same
              (keyed_behind (u.begin + 1) high ss (omega (arith, same, is)) keyed.2),
        )
    keyed_set low high (u ∷ ss) (suc r) s t keyed here was is has =
        let before : u.begin + 1 ≤ s.begin = from_low k (u.begin + 1) high ss r s keyed.2 here in (
          keyed.0,
          keeps u.begin (next_time u.ends) (omega (arith, before, was)) keyed.1,
          keyed_set (u.begin + 1) high ss r s t keyed.2 here was is has,
        )

    -- one flush less
    pub keyed_less : (low high : ℕ) (ss : List SendingData) (r : ℕ) (s : SendingData) → AreKeyed k low high ss → slice_get ss r ≡ Some s
        → s.begin ≡ begin → AreKeyed m low high (remove ss r)
    keyed_less low high [] r s keyed here was = absurd (cc)
    keyed_less low high (u ∷ ss) zero s keyed here was =
        let same : u.begin ≡ begin = ap (λ (v : SendingData). v.begin) (some_is u s here) ∙ was in
        let from : low ≤ u.begin = keyed.0 in
        lower m low (u.begin + 1) high ss (omega (arith, from)) (keyed_behind (u.begin + 1) high ss (omega (arith, same)) keyed.2)
    keyed_less low high (u ∷ ss) (suc r) s keyed here was =
        let before : u.begin + 1 ≤ s.begin = from_low k (u.begin + 1) high ss r s keyed.2 here in (
          keyed.0,
          keeps u.begin (next_time u.ends) (omega (arith, before, was)) keyed.1,
          keyed_less (u.begin + 1) high ss r s keyed.2 here was,
        )

-- a flush has its key, where the others have theirs
pub key_at : (k : FlightKeys) (low high : ℕ) (ss : List SendingData) (r : ℕ) (s : SendingData) → AreKeyed k low high ss → slice_get ss r ≡ Some s
    → IsTrue (has_key k s.begin (next_time s.ends))
key_at k low high [] r s keyed here = absurd (cc)
key_at k low high (t ∷ ss) zero s keyed here = subst (λ (u : SendingData). IsTrue (has_key k u.begin (next_time u.ends))) (some_is t s here) keyed.1
key_at k low high (t ∷ ss) (suc r) s keyed here = key_at k (t.begin + 1) high ss r s keyed.2 here

-- a flush of the same begin and ends in the place of another keeps all keys
pub keyed_again : (k : FlightKeys) (high : ℕ) (ss : List SendingData) (r : ℕ) (s t : SendingData) → AreKeyed k 0 high ss → slice_get ss r ≡ Some s
    → t.begin ≡ s.begin → t.ends ≡ s.ends → AreKeyed k 0 high (slice_set ss r t)
keyed_again k high ss r s t keyed here begin ends =
    keyed_set k k s.begin (λ other next apart has. has) 0 high ss r s t keyed here refl begin
    (subst (λ (b : ℕ). IsTrue (has_key k b (next_time t.ends))) (sym begin)
    (subst (λ (es : List End). IsTrue (has_key k s.begin (next_time es))) (sym ends) (key_at k 0 high ss r s keyed here)))
