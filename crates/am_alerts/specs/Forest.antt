-- Trees side by side.
use Rattle.std.specs.Prelude.{ℕ, ◌+◌, List, [], ◌∷◌, ◌++◌, max}

-- trees side by side: none, or a root, the forest below it and the forest after it
pub data Forest (X : Type 0) : Type 0 where
  bare : Forest X
  grow : X → Forest X → Forest X → Forest X

-- how many there are
abbrev pub count : {X : Type 0} → Forest X → ℕ
count bare = 0
count (grow x below after) = count below + 1 + count after

-- at how many levels they are
abbrev pub height : {X : Type 0} → Forest X → ℕ
height bare = 0
height (grow x below after) = max (height below + 1) (height after)

-- all of them in the order of their positions: each before those below it, and these before those after it
abbrev pub listed : {X : Type 0} → Forest X → List X
listed bare = []
listed (grow x below after) = x ∷ (listed below ++ listed after)

-- one level
abbrev pub level : {X : Type 0} → List X → Forest X
level [] = bare
level (x ∷ xs) = grow x bare (level xs)
