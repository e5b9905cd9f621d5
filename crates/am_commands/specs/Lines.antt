-- Lines: texts that are added to another, and lines.
use Rattle.std.specs.Prelude.{◌≡◌, ℕ, List, [], ◌∷◌, ◌++◌}

-- a text is added, of which this holds
abbrev pub Adds : (List ℕ → Type 0) → List ℕ → List ℕ → Type 0
Adds Is before after = (added : List ℕ) × (after ≡ before ++ added) × Is added

-- the text is a line for each of these, in order
abbrev pub AreLines : {X : Type 0} → (X → List ℕ → Type 0) → List X → List ℕ → Type 0
AreLines IsLine [] text = text ≡ []
AreLines IsLine (x ∷ xs) text = (line later : List ℕ) × (text ≡ line ++ later) × IsLine x line × AreLines IsLine xs later
