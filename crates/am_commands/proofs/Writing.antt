-- Matchers that are written as texts, one more at a time.
use Rattle.std.proofs.Common.{◌∙◌, ◌<◌, ◌≤◌, ℕ, zero, suc, ◌+◌, List, [], ◌∷◌, ◌++◌, ap, arith, get_or, inl, inr, length, map, subst, sym, take, take_all}
use Rattle.std.proofs.lemmas.List.{map-append, take_more}
use Rattle.am_alerts.specs.declared.matcher.MatcherParts.{MatcherParts}
use Rattle.am_console.specs.MatcherWords.{HasNoMatcher, IsMatcherOf, IsNoMatcher, WriteMatchers}

-- one more text writes one more matcher
write_more : (texts : List (List ℕ)) (ms : List MatcherParts) (text : List ℕ) (m : MatcherParts) → WriteMatchers texts ms → IsMatcherOf text m
    → WriteMatchers (texts ++ text ∷ []) (ms ++ m ∷ [])
write_more [] [] text m so is = (is, tt)
write_more [] (n ∷ ns) text m so is = absurd so
write_more (t ∷ ts) [] text m so is = absurd so
write_more (t ∷ ts) (n ∷ ns) text m so is = (so.0, write_more ts ns text m so.1 is)

-- the next of some texts writes the next matcher
pub write_next : {X : Type 0} (f : X → List ℕ) (xs : List X) (i : ℕ) (d : X) (ms : List MatcherParts) (m : MatcherParts) → i < length xs
    → WriteMatchers (map f (take i xs)) ms → IsMatcherOf (f (get_or xs i d)) m → WriteMatchers (map f (take (i + 1) xs)) (ms ++ m ∷ [])
write_next f xs i d ms m within so is =
    subst (λ (texts : List (List ℕ)). WriteMatchers texts (ms ++ m ∷ [])) (sym (ap (map f) (take_more xs i d within) ∙ map-append f (take i xs) (get_or xs i d ∷ [])))
    (write_more (map f (take i xs)) ms (f (get_or xs i d)) m so is)

-- all of them write all
pub write_all : {X : Type 0} (f : X → List ℕ) (xs : List X) (i : ℕ) (ms : List MatcherParts) → length xs ≤ i → WriteMatchers (map f (take i xs)) ms
    → WriteMatchers (map f xs) ms
write_all {X = X} f xs i ms past so = subst (λ (ys : List X). WriteMatchers (map f ys) ms) (take_all i xs past) so

-- one of them writes none
pub none_at : {X : Type 0} (f : X → List ℕ) (xs : List X) (i : ℕ) (d : X) → i < length xs → IsNoMatcher (f (get_or xs i d)) → HasNoMatcher (map f xs)
none_at f [] i d within none = absurd (omega arith)
none_at f (x ∷ xs) zero d within none = inl none
none_at f (x ∷ xs) (suc i) d within none = inr (none_at f xs i d (omega arith) none)
