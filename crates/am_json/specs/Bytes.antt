-- What goes through a device.
use Rattle.std.specs.Prelude.{◌≡◌, ◌++◌, ℕ, Bool, false, not, ◌&&◌, ◌==◌, List, [], length, take, Result, Ok, Err}

-- the bytes that an answer moves, at the front of these
abbrev pub moved : {E : Type 0} → Result ℕ E → List ℕ → List ℕ
moved (Ok count) bytes = take count bytes
moved (Err fault) bytes = []

-- whether an answer reported the end: nothing was read into a buffer that isn't empty
abbrev pub is_end : {E : Type 0} → Result ℕ E → List ℕ → Bool
is_end (Ok count) buffer = (count == 0) && not (length buffer == 0)
is_end (Err fault) buffer = false

-- what a device did: how often it was asked, failed and reported its end, and the bytes that it moved
pub record IoTraceData : Type 0 where
  pub reads : ℕ
  pub failed : ℕ
  pub ended : ℕ
  pub moved : List ℕ

-- the front of the text is written
pub record Breaks (IsText : List ℕ → Type 0) (taken taken_to : List ℕ) : Type 0 where
  pub text : List ℕ
  pub is : IsText text
  pub front : List ℕ
  pub behind : List ℕ
  pub parts : text ≡ front ++ behind
  pub takes : taken_to ≡ taken ++ front
