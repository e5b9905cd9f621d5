-- Numbers that rise, and the one that a search by halves finds among them.
use Rattle.std.proofs.Common.{◌≡◌, ℕ, zero, suc, ◌+◌, ◌-◌, ◌/◌, ◌<◌, ◌≤◌, Bool, true, false, ◌&&◌, Option, Some, None, List, [], ◌∷◌, ◌++◌, Result, Ok, Err, length, map, get_or, set, refl, sym, ap, ◌∙◌, subst, arith, cond}
use Rattle.std.specs.Prelude.{◌==◌, IsTrue, nat_lt, position, slice_get, slice_set}
use Rattle.std.specs.List.{position_or_len, remove}
use Rattle.std.specs.Result.{OnErr, OnOk}
use Rattle.std.proofs.lemmas.Bool.{lt-ltb, ltb-false, ltb-true}
use Rattle.std.proofs.lemmas.Bool.Decides.{nat_tests}
use Rattle.std.proofs.lemmas.List.Sums.{position_or_len_is}
use Rattle.std.proofs.lemmas.List.{get_or-map, length-map, map-append, map-set, set-get_or}
use Rattle.std.proofs.lemmas.Option.{get_or_from_slice_get}
use Rattle.am_board.proofs.lemmas.finish.Flushes.{map-remove}
use Rattle.am_model.specs.Ticket.{TicketData}
use Rattle.am_retry.specs.declared.outcome.Outcome.{Outcome}
use Rattle.am_session.specs.Ticket.{IsRecordedAt, are_rising, numbers, report_on}

and_both : (a b : Bool) → (a && b) ≡ true → (a ≡ true) × (b ≡ true)
and_both true b h = (refl, h)
and_both false b h = absurd (cc)

both_and : (a b : Bool) → a ≡ true → b ≡ true → (a && b) ≡ true
both_and a b p q = cc

lt-of : (m n : ℕ) → nat_lt m n ≡ true → m < n
lt-of m n h = grind (arith, nat_tests)

-- a number further ahead is greater
pub rising-head : (m : ℕ) (ns : List ℕ) (j : ℕ) → are_rising (m ∷ ns) ≡ true → j < length ns → m < get_or ns j 0
rising-head m [] j h within = absurd (omega arith)
rising-head m (n ∷ ns) zero h within = lt-of m n (and_both (nat_lt m n) (are_rising (n ∷ ns)) h).0
rising-head m (n ∷ ns) (suc j) h within =
    let parts = and_both (nat_lt m n) (are_rising (n ∷ ns)) h in
    let here : m < n = lt-of m n parts.0 in
    let rest : n < get_or ns j 0 = rising-head n ns j parts.1 (omega arith) in
    omega arith

rising-tail : (m : ℕ) (ns : List ℕ) → are_rising (m ∷ ns) ≡ true → are_rising ns ≡ true
rising-tail m [] h = refl
rising-tail m (n ∷ ns) h = (and_both (nat_lt m n) (are_rising (n ∷ ns)) h).1

pub rising-order : (ns : List ℕ) (i j : ℕ) → are_rising ns ≡ true → i < j → j < length ns → get_or ns i 0 < get_or ns j 0
rising-order [] i j h before within = absurd (omega arith)
rising-order (n ∷ ns) i zero h before within = absurd (omega arith)
rising-order (n ∷ ns) zero (suc j) h before within = rising-head n ns j h (omega arith)
rising-order (n ∷ ns) (suc i) (suc j) h before within = rising-order ns i j (rising-tail n ns h) (omega arith) (omega arith)

-- one more behind the last
pub rising-push : (ns : List ℕ) (n : ℕ) → are_rising ns ≡ true → ((k : ℕ) → k + 1 ≡ length ns → get_or ns k 0 < n) → are_rising (ns ++ n ∷ []) ≡ true
rising-push [] n h last = refl
rising-push (m ∷ []) n h last = both_and (nat_lt m n) true (lt-ltb m n (last 0 refl)) refl
rising-push (m ∷ (k ∷ ns)) n h last =
    let parts = and_both (nat_lt m k) (are_rising (k ∷ ns)) h in
    both_and (nat_lt m k) (are_rising ((k ∷ ns) ++ n ∷ [])) parts.0 (rising-push (k ∷ ns) n parts.1 (λ j e. last (suc j) (omega arith)))

-- one less
pub rising-remove : (ns : List ℕ) (i : ℕ) → are_rising ns ≡ true → are_rising (remove ns i) ≡ true
rising-remove [] zero h = refl
rising-remove [] (suc i) h = refl
rising-remove (m ∷ ns) zero h = rising-tail m ns h
rising-remove (m ∷ []) (suc zero) h = refl
rising-remove (m ∷ []) (suc (suc i)) h = refl
rising-remove (m ∷ (n ∷ [])) (suc zero) h = refl
rising-remove (m ∷ (n ∷ (k ∷ ns))) (suc zero) h =
    let parts = and_both (nat_lt m n) (are_rising (n ∷ (k ∷ ns))) h in
    let further = and_both (nat_lt n k) (are_rising (k ∷ ns)) parts.1 in
    let low : m < n = lt-of m n parts.0 in
    let high : n < k = lt-of n k further.0 in
    both_and (nat_lt m k) (are_rising (k ∷ ns)) (lt-ltb m k (omega arith)) further.1
rising-remove (m ∷ (n ∷ ns)) (suc (suc i)) h =
    let parts = and_both (nat_lt m n) (are_rising (n ∷ ns)) h in
    both_and (nat_lt m n) (are_rising (n ∷ remove ns i)) parts.0 (rising-remove (n ∷ ns) (suc i) parts.1)

-- ---- what a search by halves comes to

differs : (m : ℕ) {n : ℕ} → (m ≡ n → ⊥) → (m == n) ≡ false
differs m {n} other = grind (arith, nat_tests)

not-below : (m : ℕ) → nat_lt m m ≡ false
not-below m = grind (arith, nat_tests)

module _ {X : Type 0} (number : X → ℕ) (n : ℕ) (xs : List X) where
  at : (i : ℕ) (d : X) → i < length xs → get_or (map number xs) i 0 ≡ number (get_or xs i d)
  at i d within = get_or-map number xs i d 0 within

  pub found-first : (i : ℕ) (d : X) → are_rising (map number xs) ≡ true → i < length xs → number (get_or xs i d) ≡ n → position (λ x. number x == n) xs ≡ Some i
  found-first i d rising within is =
      let first : position_or_len (λ x. number x == n) xs ≡ i =
      position_or_len_is (λ x. number x == n) xs i d (omega arith)
      (λ k before. let less : number (get_or xs k d) < n = below k before in grind (arith, nat_tests))
      (λ _. grind (arith, nat_tests)) in
      ap (λ p. cond (nat_lt p (length xs)) (Some p) None) first ∙ ap (λ b. cond b (Some i) None) (lt-ltb i (length xs) within)
    where
      below : (k : ℕ) → k < i → number (get_or xs k d) < n
      below k before =
          let order : get_or (map number xs) k 0 < get_or (map number xs) i 0 = rising-order (map number xs) k i rising before (omega (arith, length-map xs number)) in
          omega (arith, at k d (omega arith), at i d within, is)

  apart : (low high : ℕ) → high ≤ low → ((k : ℕ) → k < low → k < length xs → get_or (map number xs) k 0 < n) → ((k : ℕ) → high ≤ k → k < length xs → n < get_or (map number xs) k 0)
      → (k : ℕ) (d : X) → k < length xs → (number (get_or xs k d) ≡ n → ⊥)
  apart low high over below above k d within is = by (nat_lt k low) refl
    where
      by : (b : Bool) → nat_lt k low ≡ b → ⊥
      by true before =
          let less : get_or (map number xs) k 0 < n = below k (ltb-true k low before) within in
          omega (arith, less, at k d within, is)
      by false behind =
          let after : low ≤ k = ltb-false k low behind in
          let more : n < get_or (map number xs) k 0 = above k (omega arith) within in
          omega (arith, more, at k d within, is)

  none-passes : (ys : List X) → ((k : ℕ) (d : X) → k < length ys → (number (get_or ys k d) ≡ n → ⊥)) → None ≡ position (λ x. number x == n) ys
  none-passes [] differ = refl
  none-passes (y ∷ ys) differ =
      let whole : position_or_len (λ x. number x == n) (y ∷ ys) ≡ length (y ∷ ys) =
      position_or_len_is (λ x. number x == n) (y ∷ ys) (length (y ∷ ys)) y (omega arith)
      (λ k before. differs (number (get_or (y ∷ ys) k y)) (differ k y before))
      (λ beyond. absurd (omega arith)) in
      sym (ap (λ p. cond (nat_lt p (length (y ∷ ys))) (Some p) None) whole ∙ ap (λ b. cond b (Some (length (y ∷ ys))) None) (not-below (length (y ∷ ys))))

  pub found-none : (low high : ℕ) → high ≤ low → ((k : ℕ) → k < low → k < length xs → get_or (map number xs) k 0 < n) → ((k : ℕ) → high ≤ k → k < length xs → n < get_or (map number xs) k 0)
      → None ≡ position (λ x. number x == n) xs
  found-none low high over below above = none-passes xs (apart low high over below above)

  -- what a step of the search leaves
  pub raised : (middle : ℕ) (d : X) → are_rising (map number xs) ≡ true → middle < length xs → number (get_or xs middle d) < n
      → (k : ℕ) → k < middle + 1 → k < length xs → get_or (map number xs) k 0 < n
  raised middle d rising within less k before inside = by (nat_lt k middle) refl
    where
      here : get_or (map number xs) middle 0 < n
      here = omega (arith, at middle d within, less)

      by : (b : Bool) → nat_lt k middle ≡ b → get_or (map number xs) k 0 < n
      by true smaller =
          let order : get_or (map number xs) k 0 < get_or (map number xs) middle 0 = rising-order (map number xs) k middle rising (ltb-true k middle smaller) (omega (arith, length-map xs number)) in
          omega (arith, order, here)
      by false not-smaller =
          let after : middle ≤ k = ltb-false k middle not-smaller in
          let same : k ≡ middle = omega arith in
          subst (λ (i : ℕ). get_or (map number xs) i 0 < n) (sym same) here

  pub lowered : (middle : ℕ) (d : X) → are_rising (map number xs) ≡ true → middle < length xs → n < number (get_or xs middle d)
      → (k : ℕ) → middle ≤ k → k < length xs → n < get_or (map number xs) k 0
  lowered middle d rising within more k behind inside = by (nat_lt middle k) refl
    where
      here : n < get_or (map number xs) middle 0
      here = omega (arith, at middle d within, more)

      by : (b : Bool) → nat_lt middle k ≡ b → n < get_or (map number xs) k 0
      by true further =
          let order : get_or (map number xs) middle 0 < get_or (map number xs) k 0 = rising-order (map number xs) middle k rising (ltb-true middle k further) (omega (arith, length-map xs number)) in
          omega (arith, order, here)
      by false not-further =
          let before : k ≤ middle = ltb-false middle k not-further in
          let same : k ≡ middle = omega arith in
          subst (λ (i : ℕ). n < get_or (map number xs) i 0) (sym same) here

  -- one more behind the last
  pub pushed : (count : ℕ) (d : X) (m : ℕ) → count ≡ length xs → d ≡ get_or xs (count - 1) d → m ≡ number d → nat_lt m n ≡ true → are_rising (map number xs) ≡ true → are_rising (map number xs ++ n ∷ []) ≡ true
  pushed count d m counted last is less rising = rising-push (map number xs) n rising below
    where
      below : (k : ℕ) → k + 1 ≡ length (map number xs) → get_or (map number xs) k 0 < n
      below k e =
          let at-end : k ≡ count - 1 = omega (arith, e, counted, length-map xs number) in
          let here : get_or (map number xs) k 0 ≡ number (get_or xs k d) = at k d (omega (arith, e, length-map xs number)) in
          let there : number (get_or xs k d) ≡ number d = ap (λ (i : ℕ). number (get_or xs i d)) at-end ∙ sym (ap number last) in
          omega (arith, here, there, is, lt-of m n less)

-- the index in the middle
pub middle-within : (low high : ℕ) → low < high → low + (high - low) / 2 < high
middle-within low high h = omega arith

-- ---- the numbers of tickets

pub numbers-push : (ts : List TicketData) (t : TicketData) → numbers (ts ++ t ∷ []) ≡ numbers ts ++ t.number ∷ []
numbers-push ts t = map-append (λ (u : TicketData). u.number) ts (t ∷ [])

pub rising-without : (ts : List TicketData) (i : ℕ) → IsTrue (are_rising (numbers ts)) → IsTrue (are_rising (numbers (remove ts i)))
rising-without ts i h = ap are_rising (map-remove (λ (t : TicketData). t.number) ts i) ∙ rising-remove (numbers ts) i h

-- a report changes no number
pub numbers-recorded : (old new : List TicketData) (index integration : ℕ) (outcome : Outcome) → index < length old → IsRecordedAt old index integration outcome new → numbers new ≡ numbers old
numbers-recorded old new index integration outcome within at =
    let t : TicketData = at.0 in
    ap numbers at.3
    ∙ map-set (λ (u : TicketData). u.number) old index _
    ∙ ap (set (numbers old) index) (sym (ap (λ (u : TicketData). u.number) (get_or_from_slice_get old index t t at.1)) ∙ sym (get_or-map (λ (u : TicketData). u.number) old index t 0 within))
    ∙ set-get_or (numbers old) index 0

-- nor does one that isn't recorded
pub rising-recorded : {T E : Type 0} (r : Result T E) (old new : List TicketData) (index integration : ℕ) (outcome : Outcome) → index < length old
    → OnOk r (IsRecordedAt old index integration outcome new) → OnErr r (new ≡ old) → IsTrue (are_rising (numbers old)) → IsTrue (are_rising (numbers new))
rising-recorded (Ok x) old new index integration outcome within recorded left rising = ap are_rising (numbers-recorded old new index integration outcome within recorded) ∙ rising
rising-recorded (Err e) old new index integration outcome within recorded left rising = ap (λ (ts : List TicketData). are_rising (numbers ts)) left ∙ rising

-- the numbers that are left
pub rising-left : (old new : List TicketData) (index : ℕ) → new ≡ remove old index → IsTrue (are_rising (numbers old)) → IsTrue (are_rising (numbers new))
rising-left old new index is rising = ap (λ (ts : List TicketData). are_rising (numbers ts)) is ∙ rising-without old index rising
