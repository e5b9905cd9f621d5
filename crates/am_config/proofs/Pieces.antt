-- Texts of matchers: the pieces between commas.
use Rattle.std.proofs.Common.{◌≡◌, ◌≢◌, ◌==◌, ◌<◌, ◌++◌, ◌∷◌, ◌∙◌, ℕ, zero, suc, Bool, true, false, List, [], length, cond, ap, refl, sym, append_assoc, arith}
use Rattle.std.proofs.lemmas.Bool.{ne_eqb}
use Rattle.std.proofs.lemmas.List.{append-nil}
use Rattle.am_json.specs.MatcherText.{Lacks}
use Rattle.am_config.specs.Matchers.{at_comma, pieces, quoting_after, quoting_behind, trimmed, with_front, without_first, without_last}
use Rattle.am_config.specs.declared.matchers.Quoting.{Quoting}

-- nothing before the first
pub front_none : (ps : List (List ℕ)) → with_front [] ps ≡ ps
front_none [] = refl
front_none (p ∷ ps) = refl

-- one text before another before the first
pub front_front : (a b : List ℕ) (ps : List (List ℕ)) → with_front a (with_front b ps) ≡ with_front (a ++ b) ps
front_front a b [] = refl
front_front a b (p ∷ ps) = ap (λ t. t ∷ ps) (sym (append_assoc a b p))

lacks_tail : (c x : ℕ) (xs : List ℕ) → Lacks c (x ∷ xs) → Lacks c xs
lacks_tail c x xs lacks k h e = lacks (suc k) (omega arith) e

-- a text without commas is before the first piece of what is behind it
pub pieces_front : (q : Quoting) (before rest : List ℕ) → Lacks 44 before → pieces q (before ++ rest) ≡ with_front before (pieces (quoting_after q before) rest)
pieces_front q [] rest plain = sym (front_none (pieces q rest))
pieces_front q (b ∷ bs) rest plain =
    rw (ne_eqb b 44 (plain 0 (omega arith)))
    (ap (with_front (b ∷ [])) (pieces_front (quoting_behind q b) bs rest (lacks_tail 44 b bs plain))
    ∙ front_front (b ∷ []) bs (pieces (quoting_after (quoting_behind q b) bs) rest))

-- one more comma
pub pieces_step : (ended : List (List ℕ)) (begun before behind : List ℕ) (q : Quoting) → Lacks 44 before
    → ended ++ with_front begun (pieces q (before ++ 44 ∷ behind))
    ≡ ended ++ with_front (begun ++ before) (at_comma (quoting_after q before).is_open (pieces (quoting_after q before) behind))
pieces_step ended begun before behind q plain =
    ap (λ ps. ended ++ with_front begun ps) (pieces_front q before (44 ∷ behind) plain)
    ∙ ap (λ ps. ended ++ ps) (front_front begun before (at_comma (quoting_after q before).is_open (pieces (quoting_after q before) behind)))

-- no further comma
pub pieces_last : (ended : List (List ℕ)) (begun rest : List ℕ) (q : Quoting) → Lacks 44 rest
    → ended ++ with_front begun (pieces q rest) ≡ ended ++ (begun ++ rest) ∷ []
pieces_last ended begun rest q plain =
    ap (λ t. ended ++ with_front begun (pieces q t)) (sym (append-nil rest))
    ∙ ap (λ ps. ended ++ with_front begun ps) (pieces_front q rest [] plain)
    ∙ ap (λ t. ended ++ (begun ++ t) ∷ []) (append-nil rest)

-- the last piece alone is trimmed
pub trimmed_last : (ended : List (List ℕ)) (last : List ℕ) → trimmed (ended ++ last ∷ []) ≡ ended ++ trimmed (last ∷ [])
trimmed_last [] last = refl
trimmed_last (e ∷ []) last = refl
trimmed_last (e ∷ f ∷ es) last = ap (λ ps. e ∷ ps) (trimmed_last (f ∷ es) last)

-- the quotes behind a text and one more byte
pub quoting_more : (q : Quoting) (bs : List ℕ) (b : ℕ) → quoting_after q (bs ++ b ∷ []) ≡ quoting_behind (quoting_after q bs) b
quoting_more q [] b = refl
quoting_more q (x ∷ xs) b = quoting_more (quoting_behind q x) xs b

-- a text that doesn't begin with a byte
pub first_kept : (b : ℕ) (text : List ℕ) → ((rest : List ℕ) → text ≢ b ∷ rest) → text ≡ without_first b text
first_kept b [] none = refl
first_kept b (x ∷ xs) none = rw (ne_eqb x b (λ e. none xs (ap (λ y. y ∷ xs) e))) refl

-- one that doesn't end with it
pub last_kept : (b : ℕ) (text : List ℕ) → ((front : List ℕ) → text ≢ front ++ b ∷ []) → text ≡ without_last b text
last_kept b [] none = refl
last_kept b (x ∷ []) none = rw (ne_eqb x b (λ e. none [] (ap (λ y. y ∷ []) e))) refl
last_kept b (x ∷ y ∷ xs) none = ap (λ l. x ∷ l) (last_kept b (y ∷ xs) (λ front e. none (x ∷ front) (ap (λ l. x ∷ l) e)))

-- one that ends with a brace
pub last_cut : (front : List ℕ) → front ≡ without_last 125 (front ++ 125 ∷ [])
last_cut [] = refl
last_cut (x ∷ []) = refl
last_cut (x ∷ y ∷ ys) = ap (λ l. x ∷ l) (last_cut (y ∷ ys))
