-- Labels that are written as words, one more at a time.
use Rattle.std.proofs.Common.{◌≡◌, false, is_some, MatchOption, Option, None, Some, ◌∙◌, ◌<◌, ◌≤◌, ℕ, zero, suc, ◌+◌, List, [], ◌∷◌, ◌++◌, ap, arith, get_or, inl, inr, length, map, subst, sym, take, take_all}
use Rattle.std.proofs.lemmas.List.{map-append, take_more}
use Rattle.am_alerts.specs.declared.matcher.MatcherParts.{MatcherParts}
use Rattle.am_commands.specs.LabelWords.{HasNoLabel, IsLabelWord, IsNoLabelWord, WriteLabels}

-- one more word writes one more label
write_more : (words : List (List ℕ)) (ms : List MatcherParts) (word : List ℕ) (m : MatcherParts) → WriteLabels words ms → IsLabelWord word m
    → WriteLabels (words ++ word ∷ []) (ms ++ m ∷ [])
write_more [] [] word m so is = (is, tt)
write_more [] (n ∷ ns) word m so is = absurd so
write_more (t ∷ ts) [] word m so is = absurd so
write_more (t ∷ ts) (n ∷ ns) word m so is = (so.0, write_more ts ns word m so.1 is)

-- the next of some words writes the next label
pub write_next : {X : Type 0} (f : X → List ℕ) (xs : List X) (i : ℕ) (d : X) (ms : List MatcherParts) (m : MatcherParts) → i < length xs
    → WriteLabels (map f (take i xs)) ms → IsLabelWord (f (get_or xs i d)) m → WriteLabels (map f (take (i + 1) xs)) (ms ++ m ∷ [])
write_next f xs i d ms m within so is =
    subst (λ (words : List (List ℕ)). WriteLabels words (ms ++ m ∷ [])) (sym (ap (map f) (take_more xs i d within) ∙ map-append f (take i xs) (get_or xs i d ∷ [])))
    (write_more (map f (take i xs)) ms (f (get_or xs i d)) m so is)

-- all of them write all
pub write_all : {X : Type 0} (f : X → List ℕ) (xs : List X) (i : ℕ) (ms : List MatcherParts) → length xs ≤ i → WriteLabels (map f (take i xs)) ms
    → WriteLabels (map f xs) ms
write_all {X = X} f xs i ms past so = subst (λ (ys : List X). WriteLabels (map f ys) ms) (take_all i xs past) so

-- one of them writes none
pub none_at : {X : Type 0} (f : X → List ℕ) (xs : List X) (i : ℕ) (d : X) → i < length xs → IsNoLabelWord (f (get_or xs i d)) → HasNoLabel (map f xs)
none_at f [] i d within none = absurd (omega arith)
none_at f (x ∷ xs) zero d within none = inl none
none_at f (x ∷ xs) (suc i) d within none = inr (none_at f xs i d (omega arith) none)

-- what is so of none is so where there are none
pub no_parts : {X : Type 0} (parts : Option X) (P : Type 0) (Q : X → Type 0) → is_some parts ≡ false → MatchOption parts P Q → P
no_parts None P Q none so = so
no_parts (Some x) P Q none so = absurd (cc)
