-- Where receivers are by their names, and names that are twice among them.
use Rattle.std.proofs.Common.{◌≡◌, ℕ, ◌+◌, ◌<◌, true, false, ◌||◌, List, [], ◌∷◌, length, map, cond, get_or, drop, suc, refl, sym, ap, ◌∙◌, arith}
use Rattle.std.specs.Prelude.{Option, Some, None, IfSome, find, is_some, nat_lt, slice_get}
use Rattle.std.specs.Borrow.{Bor}
use Rattle.std.specs.Option.{option_copied}
use Rattle.std.proofs.lemmas.Bool.Decides.{nat_tests}
use Rattle.std.proofs.lemmas.Option.{slice_get_past, slice_get_read}
use Rattle.std.specs.Str.{bytes_eq}
use Rattle.std.proofs.lemmas.List.{at_drop_more}
use Rattle.am_alerts.specs.Labels.{occurs_in}
use Rattle.am_model.specs.declared.config.Receiver.{Receiver}
use Rattle.am_model.specs.Receivers.{has_receiver, has_receiver_twice, place_from}

-- a name is among the names of receivers where one has it
pub occurs_in-receivers : (name : List ℕ) (receivers : List Receiver) → occurs_in name (map (λ r. r.name) receivers) ≡ has_receiver receivers name
occurs_in-receivers name [] = refl
occurs_in-receivers name (r ∷ receivers) = ap (λ b. bytes_eq r.name name || b) (occurs_in-receivers name receivers)

-- a name has a place where a receiver has it
pub has-place : (first : ℕ) (receivers : List Receiver) (name : List ℕ) → is_some (place_from first receivers name) ≡ has_receiver receivers name
has-place first [] name = refl
has-place first (r ∷ rs) name =
    elim (bytes_eq r.name name) as (λ b. is_some (cond b (Some first) (place_from (first + 1) rs name)) ≡ (b || has_receiver rs name)) [
      | true ↦ refl
      | false ↦ has-place (first + 1) rs name
    ]

-- the first receiver of a name is at its place
abbrev pub IsThere : ℕ → List Receiver → List ℕ → Option ℕ → Type 0
IsThere first rs name None = find (λ r. bytes_eq r.name name) rs ≡ None
IsThere first rs name (Some p) = (k : ℕ) × (p ≡ first + k) × (slice_get rs k ≡ find (λ r. bytes_eq r.name name) rs)

one_on : (first k : ℕ) → first + 1 + k ≡ first + suc k
one_on first k = omega arith

at_first : (first : ℕ) → first ≡ first + 0
at_first first = omega arith

later : (first : ℕ) (r : Receiver) (rs : List Receiver) (name : List ℕ) (o : Option ℕ) → IsThere (first + 1) rs name o → bytes_eq r.name name ≡ false → IsThere first (r ∷ rs) name o
later first r rs name None there other = ap (λ b. cond b (Some r) (find (λ x. bytes_eq x.name name) rs)) other ∙ there
later first r rs name (Some p) there other =
    (suc there.0, there.1 ∙ one_on first there.0, there.2 ∙ sym (ap (λ b. cond b (Some r) (find (λ x. bytes_eq x.name name) rs)) other))

pub there : (first : ℕ) (receivers : List Receiver) (name : List ℕ) → IsThere first receivers name (place_from first receivers name)
there first [] name = refl
there first (r ∷ rs) name =
    elim (bytes_eq r.name name) as (λ b. bytes_eq r.name name ≡ b → IsThere first (r ∷ rs) name (cond b (Some first) (place_from (first + 1) rs name))) [
      | true ↦ λ e. (0, at_first first, sym (ap (λ b. cond b (Some r) (find (λ x. bytes_eq x.name name) rs)) e))
      | false ↦ λ e. later first r rs name (place_from (first + 1) rs name) (there (first + 1) rs name) e
    ] refl

-- what a list has at a place, as a look-up gives it
pub looked-up : (xs : List Receiver) (p : ℕ) (o : Option (Bor Receiver)) → is_some o ≡ nat_lt p (length xs) → IfSome o (λ x. x.now ≡ get_or xs p x.now) → option_copied o ≡ slice_get xs p
looked-up xs p None none here = sym (slice_get_past xs p (grind (arith, nat_tests)))
looked-up xs p (Some x) some here = sym (slice_get_read xs (length xs) p x.now refl (grind (arith, nat_tests)) here)

-- one receiver more is placed
pub placed-more : (rs : List Receiver) (at n : ℕ) (r : Receiver) (was now : List ℕ → Option ℕ) → at < length rs → n ≡ at + 1 → r ≡ get_or rs at r
    → ((name : List ℕ) → was name ≡ place_from n (drop n rs) name) → ((name : List ℕ) → now name ≡ cond (bytes_eq r.name name) (Some at) (was name))
    → (name : List ℕ) → now name ≡ place_from at (drop at rs) name
placed-more rs at n r was now within next here placed put name =
    put name
    ∙ ap (λ o. cond (bytes_eq r.name name) (Some at) o) (placed name)
    ∙ ap (λ m. cond (bytes_eq r.name name) (Some at) (place_from m (drop m rs) name)) next
    ∙ ap (λ (x : Receiver). cond (bytes_eq x.name name) (Some at) (place_from (at + 1) (drop (at + 1) rs) name)) here
    ∙ sym (at_drop_more (λ xs. place_from at xs name) rs at r within)

-- whether a name is twice, from one receiver more on
pub twice-more : (rs : List Receiver) (at n : ℕ) (r : Receiver) (was : List ℕ → Option ℕ) → at < length rs → n ≡ at + 1 → r ≡ get_or rs at r
    → ((name : List ℕ) → was name ≡ place_from n (drop n rs) name) → (is_some (was r.name) || has_receiver_twice (drop n rs)) ≡ has_receiver_twice (drop at rs)
twice-more rs at n r was within next here placed =
    ap (λ o. is_some o || has_receiver_twice (drop n rs)) (placed r.name)
    ∙ ap (λ b. b || has_receiver_twice (drop n rs)) (has-place n (drop n rs) r.name ∙ sym (occurs_in-receivers r.name (drop n rs)))
    ∙ ap (λ m. occurs_in r.name (map (λ (x : Receiver). x.name) (drop m rs)) || has_receiver_twice (drop m rs)) next
    ∙ ap (λ (x : Receiver). occurs_in x.name (map (λ (y : Receiver). y.name) (drop (at + 1) rs)) || has_receiver_twice (drop (at + 1) rs)) here
    ∙ sym (at_drop_more has_receiver_twice rs at r within)
