-- Entries under their values' keys, and the list of the values.
use Rattle.std.proofs.Common.{◌≡◌, ℕ, suc, zero, ◌+◌, ◌<◌, Bool, true, false, cond, not, ltb, Some, None, List, [], ◌∷◌, length, filter, get_or, slice_get, set, refl, sym, ap, ◌∙◌, arith}
use Rattle.std.specs.List.{position, position_or_len}
use Rattle.std.specs.Map.{keys_of, values_of}
use Rattle.std.proofs.lemmas.List.Elements.{All-nil, All-cons, All-head, All-tail, All-filter}
use Rattle.indexmap.specs.IndexMap.{insert_entry}
use Rattle.indexmap.specs.Layout.{set_value_at}
use Rattle.indexmap.proofs.MapLemmas.{insert_entry-first, Found-position}
use Rattle.am_board.specs.Keyed.{AreKeyed}
use Rattle.am_model.specs.Lists.{upsert}

-- what a value that is there says of its index
pub value_at : {X : Type 0} (xs : List X) (i : ℕ) (x : X) → slice_get xs i ≡ Some x → (x ≡ get_or xs i x) × (i < length xs)
value_at [] i x e = absurd (cc)
value_at (y ∷ ys) zero x e = (cc, omega arith)
value_at (y ∷ ys) (suc i) x e = let h = value_at ys i x e in (h.0, omega (arith, h.1))

module _ {K X : Type 0} where
  pub length-values : (es : List (K × X)) → length (values_of es) ≡ length es
  length-values [] = refl
  length-values (e ∷ es) = ap suc (length-values es)

  -- the values where one is written
  pub values-set : (es : List (K × X)) (i : ℕ) (x : X) → values_of (set_value_at es i x) ≡ set (values_of es) i x
  values-set [] i x = refl
  values-set (e ∷ es) zero x = refl
  values-set (e ∷ es) (suc i) x = ap (λ xs. e.1 ∷ xs) (values-set es i x)

  -- the values of the entries that stay
  pub values-filter : (test : X → Bool) (es : List (K × X)) → values_of (filter (λ e. test e.1) es) ≡ filter test (values_of es)
  values-filter test [] = refl
  values-filter test (e ∷ es) =
      elim (test e.1) as (λ b. values_of (cond b (e ∷ filter (λ d. test d.1) es) (filter (λ d. test d.1) es)) ≡ cond b (e.1 ∷ filter test (values_of es)) (filter test (values_of es))) [
        | true ↦ ap (λ xs. e.1 ∷ xs) (values-filter test es)
        | false ↦ values-filter test es
      ]

module _ {K X : Type 0} (eq : K → K → Bool) (key : X → K) where
  abbrev IsKeyed : (K × X) → Type 0
  IsKeyed e = e.0 ≡ key e.1

  -- whether two values have one key
  abbrev pub same_key : X → X → Bool
  same_key x y = eq (key x) (key y)

  index_or_len : (k : K) (es : List (K × X)) → AreKeyed key es → position_or_len (eq k) (keys_of es) ≡ position_or_len (λ x. eq k (key x)) (values_of es)
  index_or_len k [] h = refl
  index_or_len k (e ∷ es) h =
      λ j. cond (not (eq k (All-head IsKeyed e es h j))) (1 + index_or_len k es (All-tail IsKeyed e es h) j) 0

  same_length : (es : List (K × X)) → length (keys_of es) ≡ length (values_of es)
  same_length [] = refl
  same_length (e ∷ es) = ap suc (same_length es)

  -- a value of the same key is written
  pub AreKeyed-set : (es : List (K × X)) (i : ℕ) (old x : X) → AreKeyed key es → slice_get (values_of es) i ≡ Some old → key x ≡ key old → AreKeyed key (set_value_at es i x)
  AreKeyed-set [] i old x h at same = h
  AreKeyed-set (e ∷ es) zero old x h at same =
      let is : e.1 ≡ old = cc in
      All-cons IsKeyed (e.0, x) es (All-head IsKeyed e es h ∙ ap key is ∙ sym same) (All-tail IsKeyed e es h)
  AreKeyed-set (e ∷ es) (suc i) old x h at same =
      All-cons IsKeyed e (set_value_at es i x) (All-head IsKeyed e es h) (AreKeyed-set es i old x (All-tail IsKeyed e es h) at same)

  pub AreKeyed-filter : (test : K × X → Bool) (es : List (K × X)) → AreKeyed key es → AreKeyed key (filter test es)
  AreKeyed-filter test es h = All-filter test IsKeyed es h

  -- a search of the keys is a search of the values
  pub index_of-keys : (k : K) (es : List (K × X)) → AreKeyed key es → position (eq k) (keys_of es) ≡ position (λ x. eq k (key x)) (values_of es)
  index_of-keys k es h =
      λ j. cond (ltb (index_or_len k es h j) (same_length es j)) (Some (index_or_len k es h j)) None

  -- an insert under its key puts a value in
  pub upsert-entries : (x : X) (es : List (K × X)) → AreKeyed key es → values_of (insert_entry eq es (key x) x) ≡ upsert same_key x (values_of es)
  upsert-entries x [] h = refl
  upsert-entries x (e ∷ es) h =
      elim (eq (key x) e.0) as (λ b. values_of (cond b ((e.0, x) ∷ es) (e ∷ insert_entry eq es (key x) x)) ≡ cond b (x ∷ values_of es) (e.1 ∷ upsert same_key x (values_of es))) [
        | true ↦ refl
        | false ↦ ap (λ xs. e.1 ∷ xs) (upsert-entries x es (All-tail IsKeyed e es h))
      ]
      ∙ ap (λ k. cond (eq (key x) k) (x ∷ values_of es) (e.1 ∷ upsert same_key x (values_of es))) (All-head IsKeyed e es h)

  -- a value that is written where its key is found is an insert under its key
  pub set-insert : (x : X) (es : List (K × X)) (i : ℕ) → AreKeyed key es → Some i ≡ position (eq (key x)) (keys_of es) → set_value_at es i x ≡ insert_entry eq es (key x) x
  set-insert x es i h at = sym (insert_entry-first eq (key x) x es i (Found-position (eq (key x)) es i (sym at)).first)

  module _ (decides : (a b : K) → eq a b ≡ true → a ≡ b) where
    -- an insert leaves each entry under its value's key
    pub AreKeyed-insert : (x : X) (es : List (K × X)) → AreKeyed key es → AreKeyed key (insert_entry eq es (key x) x)
    AreKeyed-insert x [] h = All-cons IsKeyed (key x, x) [] refl (All-nil IsKeyed)
    AreKeyed-insert x (e ∷ es) h =
        elim (eq (key x) e.0) as (λ b. eq (key x) e.0 ≡ b → AreKeyed key (cond b ((e.0, x) ∷ es) (e ∷ insert_entry eq es (key x) x))) [
          | true ↦ λ q. All-cons IsKeyed (e.0, x) es (sym (decides (key x) e.0 q)) (All-tail IsKeyed e es h)
          | false ↦ λ q. All-cons IsKeyed e (insert_entry eq es (key x) x) (All-head IsKeyed e es h) (AreKeyed-insert x es (All-tail IsKeyed e es h))
        ] refl
