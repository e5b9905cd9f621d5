-- Inputs: standard input among the files of a command line.
use Rattle.std.specs.Prelude.{◌≡◌, ℕ, ◌<◌, List, [], codes, length, slice_index_or}

-- standard input, whose path is `-`, is two of the files
pub record ReadsTwice (files : List (List ℕ)) : Type 0 where
  pub first : ℕ
  pub second : ℕ
  pub before : first < second
  pub within : second < length files
  pub first_is : slice_index_or files first [] ≡ codes "-"
  pub second_is : slice_index_or files second [] ≡ codes "-"
