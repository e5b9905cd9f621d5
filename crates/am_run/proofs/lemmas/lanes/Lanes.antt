-- Lanes and their states.
use Rattle.std.proofs.Common.{◌≡◌, ℕ, ◌+◌, ◌<◌, ◌≤◌, All, subst, List, [], ◌∷◌, ◌++◌, length, get_or, set, take, map, refl, sym, ap, ◌∙◌, append_assoc, arith}
use Rattle.std.specs.List.{enumerate_from, range_with_len, remove}
use Rattle.std.proofs.lemmas.List.{map-append, take_more, take_more_set}
use Rattle.std.proofs.lemmas.List.Elements.{All-more, All-weaker}
use Rattle.am_desk.specs.Desks.{AreFresh}
use Rattle.am_desk.specs.Known.{Seen}
use Rattle.std.proofs.lemmas.List.FromFn.{length-enumerate_from, get_or-enumerate_from}

-- one pass more has its state, and one fewer is left
pub seat_more : {S P : Type 0} (f : S → P) (ss : List S) (s : S) (ps : List P) (p : P) → 0 < length ps → p ≡ get_or ps 0 p → f s ≡ p → map f (ss ++ s ∷ []) ++ remove ps 0 ≡ map f ss ++ ps
seat_more f ss s [] p some here same = absurd (omega arith)
seat_more f ss s (x ∷ ps) p some here same =
    ap (λ qs. qs ++ ps) (map-append f ss (s ∷ []))
    ∙ (append_assoc (map f ss) (f s ∷ []) ps ∙ ap (λ q. map f ss ++ q ∷ ps) (same ∙ here))

-- one lane more has its state
pub lane_more : {S L C : Type 0} (f : S → C) (g : L → C) (ss : List S) (s : S) (ls : List L) (x : L) (n : ℕ) → n < length ss → n < length ls → x ≡ get_or ls n x → f s ≡ g x
    → map f (take n ss) ≡ map g (take n ls) → map f (take (n + 1) (set ss n s)) ≡ map g (take (n + 1) ls)
lane_more f g ss s ls x n here there is same so_far =
    ap (map f) (take_more_set ss n s here)
    ∙ (map-append f (take n ss) (s ∷ [])
    ∙ (ap (λ cs. cs ++ f s ∷ []) so_far
    ∙ (ap (λ c. map g (take n ls) ++ c ∷ []) (same ∙ ap g is)
    ∙ (sym (map-append g (take n ls) (get_or ls n x ∷ [])) ∙ sym (ap (map g) (take_more ls n x there))))))

-- where a walk over numbered items is: its number, and the item there
pub numbered : {X : Type 0} (xs : List X) (n k : ℕ) (x : X) → n < length (enumerate_from 0 xs) → (k, x) ≡ get_or (enumerate_from 0 xs) n (k, x) → (n < length xs) × (k ≡ n) × (x ≡ get_or xs n x)
numbered {X} xs n k x there is =
    let within : n < length xs = omega (arith, length-enumerate_from 0 xs) in
    let e : (k, x) ≡ (0 + n, get_or xs n x) = is ∙ get_or-enumerate_from 0 xs n (k, x) within in
    let number : k ≡ 0 + n = ap (λ (p : ℕ × X). p.0) e in
    (within, omega arith, ap (λ (p : ℕ × X). p.1) e)

-- passes that have seen nothing, from the n-th on, have the numbers from n on
pub fresh_numbers : (n : ℕ) (ps : List Seen) → AreFresh n ps → map (λ (p : Seen). p.number) ps ≡ range_with_len n (length ps)
fresh_numbers n [] fresh = refl
fresh_numbers n (p ∷ ps) fresh =
    ap (λ (k : ℕ). k ∷ map (λ (q : Seen). q.number) ps) (ap (λ (q : Seen). q.number) fresh.0)
    ∙ ap (λ (ks : List ℕ). n ∷ ks) (fresh_numbers (n + 1) ps fresh.1)

-- the first of passes that have seen nothing has the number n, and the others have those that follow
pub first_fresh : (n : ℕ) (ps : List Seen) (p : Seen) → AreFresh n ps → 0 < length ps → p ≡ get_or ps 0 p → (p.number ≡ n) × AreFresh (n + 1) (remove ps 0)
first_fresh n [] p fresh some is = absurd (omega arith)
first_fresh n (x ∷ ps) p fresh some is = (ap (λ (q : Seen). q.number) (is ∙ fresh.0), fresh.1)

-- where the most is raised, it is the most of one item more
pub most_more : {X : Type 0} (f : X → ℕ) (xs : List X) (n a b : ℕ) (x : X) → n < length xs → x ≡ get_or xs n x → All (λ (y : X). f y ≤ a) (take n xs) → a ≤ b → f x ≤ b → All (λ (y : X). f y ≤ b) (take (n + 1) xs)
most_more {X} f xs n a b x there is all grows here =
    All-more (λ (y : X). f y ≤ b) xs n x there (All-weaker (λ (y : X). f y ≤ a) (λ (y : X). f y ≤ b) (λ y le. omega arith) (take n xs) all) (subst (λ (y : X). f y ≤ b) is here)
