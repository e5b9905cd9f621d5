-- Bytes that are being written.
use Rattle.std.proofs.Common.{◌≡◌, ◌++◌, ℕ, List}

-- the front of the bytes was written, and the rest is left
pub record Front (bytes rest taken taken_to : List ℕ) : Type 0 where
  pub front : List ℕ
  pub parts : bytes ≡ front ++ rest
  pub takes : taken_to ≡ taken ++ front
