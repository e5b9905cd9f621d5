-- A collection that has come as far as an index of the log.
use Rattle.std.proofs.Common.{◌≡◌, ℕ, suc, zero, ◌+◌, ◌≤◌, arith, Bool, true, false, cond, [], ◌∷◌, length, slice_get, Option, None, Some, unwrap_or, refl, sym, ap, subst, add-one, add-zero, ◌∙◌, if◌then◌else◌}
use Rattle.std.proofs.lemmas.List.Sums.{sum_by-cons}
use Rattle.std.specs.Map.{values_of}
use Rattle.indexmap.specs.Layout.{set_value_at}
use Rattle.am_nflog.specs.Log.{Slots, is_expired, kept, collected, expired_count, HasDistinctKeys}
use Rattle.am_nflog.proofs.CallerLemmas.{HasDistinctKeys-collected}
use Rattle.am_nflog.specs.declared.row.LogRow.{LogRow}

at_most_one : (b : Bool) → cond b 1 0 ≤ 1
at_most_one true = omega arith
at_most_one false = omega arith

module _ {G N : Type 0} (t : ℕ) where
  -- the log after its first i indexes were collected
  abbrev pub swept : ℕ → Slots G N → Slots G N
  swept i [] = []
  swept zero (s ∷ ss) = s ∷ ss
  swept (suc i) (s ∷ ss) = (s.0, kept t s.1) ∷ swept i ss

  -- how many rows went there
  abbrev pub swept_count : ℕ → Slots G N → ℕ
  swept_count i [] = 0
  swept_count zero (s ∷ ss) = 0
  swept_count (suc i) (s ∷ ss) = cond (is_expired t s.1) 1 0 + swept_count i ss

  pub length-swept : (i : ℕ) (log : Slots G N) → length (swept i log) ≡ length log
  length-swept i [] = refl
  length-swept zero (s ∷ ss) = refl
  length-swept (suc i) (s ∷ ss) = ap suc (length-swept i ss)

  pub swept-zero : (log : Slots G N) → log ≡ swept 0 log
  swept-zero [] = refl
  swept-zero (s ∷ ss) = refl

  pub swept_count-zero : (log : Slots G N) → 0 ≡ swept_count 0 log
  swept_count-zero [] = refl
  swept_count-zero (s ∷ ss) = refl

  pub swept-length : (log : Slots G N) → swept (length log) log ≡ collected t log
  swept-length [] = refl
  swept-length (s ∷ ss) = ap (λ rest. (s.0, kept t s.1) ∷ rest) (swept-length ss)

  pub swept_count-length : (log : Slots G N) → swept_count (length log) log ≡ expired_count t log
  swept_count-length [] = refl
  swept_count-length (s ∷ ss) =
      ap (λ n. cond (is_expired t s.1) 1 0 + n) (swept_count-length ss) ∙ sym (sum_by-cons (λ slot. cond (is_expired t slot.1) 1 0) s ss)

  pub swept_count-le : (i : ℕ) (log : Slots G N) → swept_count i log ≤ i
  swept_count-le i [] = omega arith
  swept_count-le zero (s ∷ ss) = omega arith
  swept_count-le (suc i) (s ∷ ss) =
      let rest : swept_count i ss ≤ i = swept_count-le i ss in
      let one : cond (is_expired t s.1) 1 0 ≤ 1 = at_most_one (is_expired t s.1) in
      omega arith

  -- what the row at the next index decides
  module _ (row : Option (LogRow N)) where
    -- it goes
    pub swept-goes : (i : ℕ) (log : Slots G N) → slice_get (values_of (swept i log)) i ≡ Some row → is_expired t row ≡ true
        → set_value_at (swept i log) i None ≡ swept (suc i) log
    swept-goes i [] at goes = refl
    swept-goes zero (s ∷ ss) at goes =
        let e : s.1 ≡ row = ap (λ o. unwrap_or o row) at in
        let b : true ≡ is_expired t s.1 = sym (ap (is_expired t) e ∙ goes) in
        (λ j. (s.0, if b j then None else s.1) ∷ swept-zero ss j)
    swept-goes (suc i) (s ∷ ss) at goes = ap (λ rest. (s.0, kept t s.1) ∷ rest) (swept-goes i ss at goes)

    -- it stays
    pub swept-stays : (i : ℕ) (log : Slots G N) → slice_get (values_of (swept i log)) i ≡ Some row → is_expired t row ≡ false
        → swept i log ≡ swept (suc i) log
    swept-stays i [] at stays = refl
    swept-stays zero (s ∷ ss) at stays =
        let e : s.1 ≡ row = ap (λ o. unwrap_or o row) at in
        let b : false ≡ is_expired t s.1 = sym (ap (is_expired t) e ∙ stays) in
        (λ j. (s.0, if b j then None else s.1) ∷ swept-zero ss j)
    swept-stays (suc i) (s ∷ ss) at stays = ap (λ rest. (s.0, kept t s.1) ∷ rest) (swept-stays i ss at stays)

    -- and it counts if it goes
    pub swept_count-suc : (i : ℕ) (log : Slots G N) (b : Bool) → slice_get (values_of (swept i log)) i ≡ Some row → is_expired t row ≡ b
        → swept_count i log + cond b 1 0 ≡ swept_count (suc i) log
    swept_count-suc i [] b at is = cc
    swept_count-suc zero (s ∷ ss) b at is =
        let e : s.1 ≡ row = ap (λ o. unwrap_or o row) at in
        let count : ◌≡◌ {A = ℕ} (cond (is_expired t s.1) 1 0) (cond b 1 0) = ap (λ c. cond c 1 0) (ap (is_expired t) e ∙ is) in
        let none : 0 ≡ swept_count 0 ss = swept_count-zero ss in
        omega arith
    swept_count-suc (suc i) (s ∷ ss) b at is =
        let rest : swept_count i ss + cond b 1 0 ≡ swept_count (suc i) ss = swept_count-suc i ss b at is in
        omega arith

  -- the entries and the count after the first i indexes
  pub record IsSwept (i : ℕ) (log entries : Slots G N) (gone : ℕ) : Type 0 where
    pub rows : entries ≡ swept i log
    pub count : gone ≡ swept_count i log

  pub IsSwept-begin : (log entries : Slots G N) → entries ≡ log → IsSwept 0 log entries 0
  IsSwept-begin log entries e = record { rows = e ∙ swept-zero log; count = swept_count-zero log }

  module _ (i : ℕ) (log entries : Slots G N) (gone : ℕ) (done : IsSwept i log entries gone) where
    pub length-IsSwept : length entries ≡ length log
    length-IsSwept = ap length done.rows ∙ length-swept i log

    pub IsSwept-count : gone ≤ i
    IsSwept-count = subst (λ n. n ≤ i) (sym done.count) (swept_count-le i log)

    pub IsSwept-end : i ≡ length log → (entries ≡ collected t log) × (gone ≡ expired_count t log)
    IsSwept-end e =
        (done.rows ∙ ap (λ n. swept n log) e ∙ swept-length log, done.count ∙ ap (λ n. swept_count n log) e ∙ swept_count-length log)

    -- the keys stay distinct
    pub IsSwept-distinct : (eq : G → G → Bool) → HasDistinctKeys eq log → i ≡ length log → HasDistinctKeys eq entries
    IsSwept-distinct eq h e = subst (HasDistinctKeys eq) (sym (IsSwept-end e).0) (HasDistinctKeys-collected eq log t h)

    -- one index further
    module _ (row : Option (LogRow N)) (at : slice_get (values_of entries) i ≡ Some row) (left : Slots G N) (n : ℕ) where
      there : slice_get (values_of (swept i log)) i ≡ Some row
      there = subst (λ es. slice_get (values_of es) i ≡ Some row) done.rows at

      further : left ≡ swept (suc i) log → n ≡ swept_count (suc i) log → IsSwept (i + 1) log left n
      further rows count = subst (λ k. IsSwept k log left n) (sym (add-one i)) (record { rows = rows; count = count })

      pub IsSwept-goes : true ≡ is_expired t row → left ≡ set_value_at entries i None → n ≡ gone + 1 → IsSwept (i + 1) log left n
      IsSwept-goes goes rows count =
          further (rows ∙ ap (λ es. set_value_at es i None) done.rows ∙ swept-goes row i log there (sym goes))
          (count ∙ ap (λ k. k + 1) done.count ∙ swept_count-suc row i log true there (sym goes))

      pub IsSwept-stays : false ≡ is_expired t row → left ≡ entries → n ≡ gone → IsSwept (i + 1) log left n
      IsSwept-stays stays rows count =
          further (rows ∙ done.rows ∙ swept-stays row i log there (sym stays))
          (count ∙ done.count ∙ sym (add-zero (swept_count i log)) ∙ swept_count-suc row i log false there (sym stays))
