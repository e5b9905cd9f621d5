-- Needing an update looks at its lists as sets only, and is the same under a one-to-one numbering.
use Rattle.std.proofs.Common.{◌≡◌, ℕ, ◌+◌, Bool, true, false, not, ◌||◌, ◌&&◌, nat_lt, List, [], ◌∷◌, ◌++◌, map, Option, None, Some, refl, sym, ap, ◌∙◌, true≢false, if◌then◌else◌}
use Rattle.std.proofs.lemmas.List.Folds.{list_any-append}
use Rattle.std.specs.Cmp.{IsEquivalence, both_ways, first_so, second_so}
use Rattle.std.specs.Cmp.Derive.{both_true}
use Rattle.am_nflog.specs.Members.{is_empty, is_member, is_subset, AreSameSet}
use Rattle.am_nflog.specs.Needed.{is_update, needed, members_of, IsOneToOne, IsNumberedRow, AreNumbersOf, NumberingKeepsNeeded}
use Rattle.am_nflog.specs.declared.row.LogRow.{LogRow}
use Rattle.am_nflog.specs.declared.update.UpdateReason.TheVariants.{FirstNotice, NewAlert, AllResolved, NewlyResolved, Repeat, NothingFiring, NotYet}

or_left : (a b : Bool) → a ≡ true → (a || b) ≡ true
or_left a b h = ap (λ c. c || b) h

or_right : (a b : Bool) → b ≡ true → (a || b) ≡ true
or_right true b h = refl
or_right false b h = h

-- ---- sets

module _ {N : Type 0} (eq : N → N → Bool) where
  member_left : (x : N) (xs ys : List N) → is_member eq x xs ≡ true → is_member eq x (xs ++ ys) ≡ true
  member_left x xs ys h = list_any-append (eq x) xs ys ∙ or_left _ _ h

  member_right : (x : N) (xs ys : List N) → is_member eq x ys ≡ true → is_member eq x (xs ++ ys) ≡ true
  member_right x xs ys h = list_any-append (eq x) xs ys ∙ or_right _ _ h

module _ {N : Type 0} {eq : N → N → Bool} (laws : IsEquivalence eq) where
  pub member_alike : (x y : N) (zs : List N) → eq x y ≡ true → is_member eq x zs ≡ is_member eq y zs
  member_alike x y [] e = refl
  member_alike x y (z ∷ zs) e = (λ i. laws.congr x y z e i || member_alike x y zs e i)

  member_first : (x : N) (xs : List N) → is_member eq x (x ∷ xs) ≡ true
  member_first x xs = or_left (eq x x) _ (laws.refl x)

  member_of_whole : (x : N) (xs ys : List N) → is_subset eq xs ys ≡ true → is_member eq x xs ≡ true → is_member eq x ys ≡ true
  member_of_whole x [] ys h m = absurd (true≢false (sym m))
  member_of_whole x (z ∷ xs) ys h m = by (eq x z) refl m (member_of_whole x xs ys (second_so _ _ h))
    where
      by : (b : Bool) → eq x z ≡ b → (b || is_member eq x xs) ≡ true → (is_member eq x xs ≡ true → is_member eq x ys ≡ true) → is_member eq x ys ≡ true
      by true e g rest = member_alike x z ys e ∙ first_so _ _ h
      by false e g rest = rest g

  subset_from_members : (xs ys : List N) → ((x : N) → is_member eq x xs ≡ true → is_member eq x ys ≡ true) → is_subset eq xs ys ≡ true
  subset_from_members [] ys f = refl
  subset_from_members (x ∷ xs) ys f =
      both_true (f x (member_first x xs)) (subset_from_members xs ys (λ z m. f z (or_right (eq z x) _ m)))

  subset_same_left : (xs ys zs : List N) → AreSameSet eq xs ys → is_subset eq xs zs ≡ is_subset eq ys zs
  subset_same_left xs ys zs s =
      both_ways _ _ (λ h. subset_from_members ys zs (λ x m. member_of_whole x xs zs h (s x ∙ m)))
      (λ h. subset_from_members xs zs (λ x m. member_of_whole x ys zs h (sym (s x) ∙ m)))

  subset_same_right : (xs ys zs : List N) → AreSameSet eq ys zs → is_subset eq xs ys ≡ is_subset eq xs zs
  subset_same_right [] ys zs s = refl
  subset_same_right (x ∷ xs) ys zs s = (λ i. s x i && subset_same_right xs ys zs s i)

  empty_same : (xs ys : List N) → AreSameSet eq xs ys → is_empty xs ≡ is_empty ys
  empty_same [] [] s = refl
  empty_same [] (y ∷ ys) s = absurd (true≢false (sym (member_first y ys) ∙ sym (s y)))
  empty_same (x ∷ xs) [] s = absurd (true≢false (sym (member_first x xs) ∙ s x))
  empty_same (x ∷ xs) (y ∷ ys) s = refl

-- ---- numbers

empty_map : {M N : Type 0} (number : M → N) (xs : List M) → is_empty (map number xs) ≡ is_empty xs
empty_map number [] = refl
empty_map number (x ∷ xs) = refl

module _ {M N : Type 0} {same : M → M → Bool} {equal : N → N → Bool} (laws_same : IsEquivalence same) (laws : IsEquivalence equal) (number : M → N) where
  member_map : (x : M) (ys : List M) → ((y : M) → is_member same y ys ≡ true → equal (number x) (number y) ≡ same x y)
      → is_member equal (number x) (map number ys) ≡ is_member same x ys
  member_map x [] f = refl
  member_map x (y ∷ ys) f =
      let rest : is_member equal (number x) (map number ys) ≡ is_member same x ys = member_map x ys (λ z m. f z (or_right (same z y) _ m)) in
      (λ i. f y (member_first laws_same y ys) i || rest i)

  subset_map : (xs ys : List M) → ((x y : M) → is_member same x xs ≡ true → is_member same y ys ≡ true → equal (number x) (number y) ≡ same x y)
      → is_subset equal (map number xs) (map number ys) ≡ is_subset same xs ys
  subset_map [] ys f = refl
  subset_map (x ∷ xs) ys f =
      let first : is_member equal (number x) (map number ys) ≡ is_member same x ys = member_map x ys (λ y m. f x y (member_first laws_same x xs) m) in
      let rest : is_subset equal (map number xs) (map number ys) ≡ is_subset same xs ys = subset_map xs ys (λ z y m k. f z y (or_right (same z x) _ m) k) in
      (λ i. first i && rest i)

  subset_numbers : (xs ys : List M) (ns ms : List N)
      → ((x y : M) → is_member same x xs ≡ true → is_member same y ys ≡ true → equal (number x) (number y) ≡ same x y)
      → AreNumbersOf same equal number xs ns → AreNumbersOf same equal number ys ms → is_subset equal ns ms ≡ is_subset same xs ys
  subset_numbers xs ys ns ms f p q =
      subset_same_left laws ns (map number xs) ms p ∙ subset_same_right laws (map number xs) ms (map number ys) q ∙ subset_map xs ys f

  empty_numbers : (xs : List M) (ns : List N) → AreNumbersOf same equal number xs ns → is_empty ns ≡ is_empty xs
  empty_numbers xs ns p = empty_same laws ns (map number xs) p ∙ empty_map number xs

  needed_numbers : (row : Option (LogRow M)) (numbered : Option (LogRow N)) (firing resolved : List M) (firing_numbers resolved_numbers : List N)
      (send_resolved : Bool) (repeat t : ℕ)
      → IsOneToOne same equal number (members_of row ++ firing ++ resolved)
      → IsNumberedRow same equal number row numbered
      → AreNumbersOf same equal number firing firing_numbers
      → AreNumbersOf same equal number resolved resolved_numbers
      → needed equal numbered firing_numbers resolved_numbers send_resolved repeat t ≡ needed same row firing resolved send_resolved repeat t
  needed_numbers None None firing resolved fs rs send_resolved repeat t one r f q =
      ap (λ b. is_update (if b then NothingFiring else FirstNotice)) (empty_numbers firing fs f)
  needed_numbers None (Some n) firing resolved fs rs send_resolved repeat t one r f q = absurd r
  needed_numbers (Some m) None firing resolved fs rs send_resolved repeat t one r f q = absurd r
  needed_numbers (Some m) (Some n) firing resolved fs rs send_resolved repeat t one r f q =
      let in_row : (x : M) → is_member same x (m.firing ++ m.resolved) ≡ true → is_member same x (m.firing ++ m.resolved ++ firing ++ resolved) ≡ true
      = λ x k. member_left same x (m.firing ++ m.resolved ++ firing) resolved (member_left same x (m.firing ++ m.resolved) firing k) in
      let firing_known : is_subset equal fs n.firing ≡ is_subset same firing m.firing
      = subset_numbers firing m.firing fs n.firing
      (λ x y k l. one x y (member_left same x (m.firing ++ m.resolved ++ firing) resolved (member_right same x (m.firing ++ m.resolved) firing k)) (in_row y (member_left same y m.firing m.resolved l))) f r.1 in
      let resolved_known : is_subset equal rs n.resolved ≡ is_subset same resolved m.resolved
      = subset_numbers resolved m.resolved rs n.resolved
      (λ x y k l. one x y (member_right same x (m.firing ++ m.resolved ++ firing) resolved k) (in_row y (member_right same y m.firing m.resolved l))) q r.2 in
      let none_fires : is_empty fs ≡ is_empty firing = empty_numbers firing fs f in
      let none_fired : is_empty n.firing ≡ is_empty m.firing = empty_numbers m.firing n.firing r.1 in
      (λ i. is_update (if not (firing_known i) then NewAlert
      else if none_fires i then (if none_fired i then NothingFiring else AllResolved)
      else if send_resolved && not (resolved_known i) then NewlyResolved
      else if nat_lt (r.0 i + repeat) t then Repeat
      else NotYet (r.0 i)))

pub numbering_keeps_needed : {M N : Type 0} {same : M → M → Bool} {equal : N → N → Bool} → IsEquivalence same → IsEquivalence equal → NumberingKeepsNeeded same equal
numbering_keeps_needed laws_same laws number = needed_numbers laws_same laws number
