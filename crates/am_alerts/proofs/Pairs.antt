-- Pairs of a name and a value, read as labels.
use Rattle.std.proofs.Common.{◌≡◌, ℕ, ◌+◌, ◌<◌, Bool, true, false, cond, ◌&&◌, ◌||◌, List, [], ◌∷◌, ◌++◌, length, map, filter, get_or, take}
use Rattle.std.proofs.Common.{drop, sym, refl, ap, ◌∙◌, arith, Bor}
use Rattle.std.specs.List.{list_any}
use Rattle.std.specs.Str.{bytes_eq}
use Rattle.std.proofs.lemmas.List.{at_drop_more, take_more, map-append, length-map, get_or-map}
use Rattle.std.specs.List.Sorted.{IsSorted, IsSortedBy}
use Rattle.std.specs.Ordering.{is_lt}
use Rattle.std.proofs.lemmas.List.Elements.{filter-append}
use Rattle.am_alerts.specs.Labels.{has_value, has_text_twice, names_of, occurs_in, with_values, label_cmp, label_in, labels_in}

-- the pairs of texts, as clauses see them
abbrev pub Pairs : Type 0
Pairs = List (Bor (List ℕ) × Bor (List ℕ))

-- whether two of the pairs with a value have one name
abbrev pub has_name_twice_in : Pairs → Bool
has_name_twice_in ps = has_text_twice (names_of (with_values (labels_in ps)))

-- whether one of the pairs with a value has this name
abbrev pub has_name_in : List ℕ → Pairs → Bool
has_name_in name ps = list_any (λ p. has_value (label_in p) && bytes_eq p.0.now name) ps

filter-map : {X Y : Type 0} (p : Y → Bool) (f : X → Y) (xs : List X) → filter p (map f xs) ≡ map f (filter (λ x. p (f x)) xs)
filter-map p f [] = refl
filter-map p f (x ∷ xs) = by (p (f x)) (filter-map p f xs)
  where
    by : (b : Bool) → filter p (map f xs) ≡ map f (filter (λ y. p (f y)) xs)
        → cond b (f x ∷ filter p (map f xs)) (filter p (map f xs))
        ≡ map f (cond b (x ∷ filter (λ y. p (f y)) xs) (filter (λ y. p (f y)) xs))
    by true e = ap (λ r. f x ∷ r) e
    by false e = e

-- how many pairs have a value
pub length-with_values : (ps : Pairs) → length (with_values (labels_in ps)) ≡ length (filter (λ p. has_value (label_in p)) ps)
length-with_values ps = ap length (filter-map has_value label_in ps) ∙ length-map (filter (λ p. has_value (label_in p)) ps) label_in

-- one more pair
pub with_values-more : (ps : Pairs) (i : ℕ) (p d : Bor (List ℕ) × Bor (List ℕ)) → i < length ps → p ≡ get_or ps i d
    → with_values (labels_in (take (i + 1) ps)) ≡ with_values (labels_in (take i ps)) ++ cond (has_value (label_in p)) (label_in p ∷ []) []
with_values-more ps i p d within here =
    ap (λ qs. with_values (labels_in qs)) (take_more ps i d within ∙ ap (λ q. take i ps ++ q ∷ []) (sym here))
    ∙ ap with_values (map-append label_in (take i ps) (p ∷ []))
    ∙ filter-append has_value (labels_in (take i ps)) (label_in p ∷ [])

-- a name is among them where a pair has a value and that name
pub occurs_in-names : (name : List ℕ) (ps : Pairs) → occurs_in name (names_of (with_values (labels_in ps))) ≡ has_name_in name ps
occurs_in-names name [] = refl
occurs_in-names name (p ∷ ps) = by (has_value (label_in p)) (occurs_in-names name ps)
  where
    by : (b : Bool) → occurs_in name (names_of (with_values (labels_in ps))) ≡ has_name_in name ps
        → occurs_in name (names_of (cond b (label_in p ∷ with_values (labels_in ps)) (with_values (labels_in ps))))
        ≡ ((b && bytes_eq p.0.now name) || has_name_in name ps)
    by true e = ap (λ r. bytes_eq p.0.now name || r) e
    by false e = e

has_name_twice_in-cons : (p : Bor (List ℕ) × Bor (List ℕ)) (ps : Pairs)
    → has_name_twice_in (p ∷ ps) ≡ ((has_value (label_in p) && has_name_in p.0.now ps) || has_name_twice_in ps)
has_name_twice_in-cons p ps = by (has_value (label_in p))
  where
    by : (b : Bool)
        → has_text_twice (names_of (cond b (label_in p ∷ with_values (labels_in ps)) (with_values (labels_in ps))))
        ≡ ((b && has_name_in p.0.now ps) || has_name_twice_in ps)
    by true = ap (λ r. r || has_name_twice_in ps) (occurs_in-names p.0.now ps)
    by false = refl

-- the pair at an index, and those behind it
pub has_name_twice_in-drop : (ps : Pairs) (i : ℕ) (p d : Bor (List ℕ) × Bor (List ℕ)) → i < length ps → p ≡ get_or ps i d
    → has_name_twice_in (drop i ps)
    ≡ ((has_value (label_in p) && has_name_in p.0.now (drop (i + 1) ps)) || has_name_twice_in (drop (i + 1) ps))
has_name_twice_in-drop ps i p d within here =
    at_drop_more has_name_twice_in ps i d within ∙ ap (λ q. has_name_twice_in (q ∷ drop (i + 1) ps)) (sym here)
    ∙ has_name_twice_in-cons p (drop (i + 1) ps)

module _ (ps : Pairs) (i : ℕ) (d : Bor (List ℕ) × Bor (List ℕ)) (within : i < length ps)
    (same : has_name_twice_in (drop i ps) ≡ has_name_twice_in ps) where
  -- the name of the pair at an index comes again
  pub has_name_twice_in-found : has_value (label_in (get_or ps i d)) ≡ true → has_name_in (get_or ps i d).0.now (drop (i + 1) ps) ≡ true
      → true ≡ has_name_twice_in ps
  has_name_twice_in-found valued again =
      let later = has_name_twice_in (drop (i + 1) ps) in
      sym (sym same ∙ has_name_twice_in-drop ps i (get_or ps i d) d within refl
      ∙ ap (λ b. (b && has_name_in (get_or ps i d).0.now (drop (i + 1) ps)) || later) valued ∙ ap (λ b. b || later) again)

  -- the pair at an index has no value
  pub has_name_twice_in-unvalued : has_value (label_in (get_or ps i d)) ≡ false → has_name_twice_in (drop (i + 1) ps) ≡ has_name_twice_in ps
  has_name_twice_in-unvalued unvalued =
      let later = has_name_twice_in (drop (i + 1) ps) in
      sym (sym same ∙ has_name_twice_in-drop ps i (get_or ps i d) d within refl
      ∙ ap (λ b. (b && has_name_in (get_or ps i d).0.now (drop (i + 1) ps)) || later) unvalued)

  -- its name doesn't come again
  pub has_name_twice_in-once : has_value (label_in (get_or ps i d)) ≡ true → has_name_in (get_or ps i d).0.now (drop (i + 1) ps) ≡ false
      → has_name_twice_in (drop (i + 1) ps) ≡ has_name_twice_in ps
  has_name_twice_in-once valued once =
      let later = has_name_twice_in (drop (i + 1) ps) in
      sym (sym same ∙ has_name_twice_in-drop ps i (get_or ps i d) d within refl
      ∙ ap (λ b. (b && has_name_in (get_or ps i d).0.now (drop (i + 1) ps)) || later) valued ∙ ap (λ b. b || later) once)

IsSortedBy-map : {X Y : Type 0} (lt : Y → Y → Bool) (f : X → Y) (xs : List X) → IsSortedBy (λ x y. lt (f x) (f y)) xs
    → IsSortedBy lt (map f xs)
IsSortedBy-map lt f [] up = λ k d low high. absurd (omega (arith, high))
IsSortedBy-map lt f (x ∷ xs) up = λ k d low high.
    let within : k + 1 < length (x ∷ xs) = omega (arith, high, length-map (x ∷ xs) f) in
    ap (λ y. lt y (get_or (map f (x ∷ xs)) k d)) (get_or-map f (x ∷ xs) (k + 1) x d within)
    ∙ ap (λ y. lt (f (get_or (x ∷ xs) (k + 1) x)) y) (get_or-map f (x ∷ xs) k x d (omega (arith, within)))
    ∙ up k x low within

-- pairs in the order of their labels
pub IsSorted-labels_in : (ps : Pairs) → IsSortedBy (λ p q. is_lt (label_cmp (label_in p) (label_in q))) ps
    → IsSorted label_cmp (labels_in ps)
IsSorted-labels_in ps up = IsSortedBy-map (λ l m. is_lt (label_cmp l m)) label_in ps up
