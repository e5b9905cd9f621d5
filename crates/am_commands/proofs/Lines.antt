-- Lines, as a loop adds them.
use Rattle.std.proofs.Common.{◌≡◌, ℕ, ◌+◌, ◌<◌, ◌≤◌, List, [], ◌∷◌, ◌++◌, length, take, take_all, get_or, sym, ap, subst, ◌∙◌, refl, append_assoc}
use Rattle.std.proofs.lemmas.List.{append-nil, take_more}
use Rattle.am_commands.specs.Lines.{Adds, AreLines}

-- one more line
more_lines : {X : Type 0} (P : X → List ℕ → Type 0) (xs : List X) (x : X) (text line : List ℕ) → AreLines P xs text → P x line
    → AreLines P (xs ++ x ∷ []) (text ++ line)
more_lines P [] x text line are is = (line, [], ap (λ (t : List ℕ). t ++ line) are ∙ sym (append-nil line), is, refl)
more_lines P (y ∷ ys) x text line are is =
    (are.0, are.1 ++ line, ap (λ (t : List ℕ). t ++ line) are.2 ∙ append_assoc are.0 are.1 line, are.3, more_lines P ys x are.1 line are.4 is)

module _ {X : Type 0} (P : X → List ℕ → Type 0) (xs : List X) (i : ℕ) (d : X) (before between after : List ℕ) where
  -- the line of the next of some, behind those of the ones before it
  pub next_line : i < length xs → Adds (AreLines P (take i xs)) before between → Adds (P (get_or xs i d)) between after
      → Adds (AreLines P (take (i + 1) xs)) before after
  next_line within so_far next = (
    so_far.0 ++ next.0,
    next.1 ∙ ap (λ (t : List ℕ). t ++ next.0) so_far.1 ∙ append_assoc before so_far.0 next.0,
    subst (λ (ys : List X). AreLines P ys (so_far.0 ++ next.0)) (sym (take_more xs i d within))
        (more_lines P (take i xs) (get_or xs i d) so_far.0 next.0 so_far.2 next.2),
  )
