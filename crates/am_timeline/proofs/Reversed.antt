-- The first elements of a list, the last of them first.
use Rattle.std.proofs.Common.{◌≡◌, ◌∙◌, ◌<◌, ◌+◌, ℕ, List, [], ◌∷◌, ap, get_or, length, reverse, take}
use Rattle.std.proofs.lemmas.List.{reverse-append, take_more}

-- with one more
pub reverse_more : {X : Type 0} (xs : List X) (i : ℕ) (d : X) → i < length xs
    → reverse (take (i + 1) xs) ≡ get_or xs i d ∷ reverse (take i xs)
reverse_more {X} xs i d inside =
    ap (λ (l : List X). reverse l) (take_more xs i d inside) ∙ reverse-append (take i xs) (get_or xs i d ∷ [])
