-- JsonLines: what `json` prints.
use Rattle.std.specs.Prelude.{◌≡◌, ◌≤◌, ℕ, false, List, [], ◌∷◌, ◌++◌, codes, Some}
use Rattle.serde_json.specs.Data.{Data, depth}
use Rattle.serde_json.specs.Read.{max_depth, read}
use Rattle.serde_json.specs.Written.{IsInOrder, compact_text, has_float}
use Rattle.am_command_line.specs.declared.exit_status.ExitStatus.{ExitStatus}
use Rattle.am_command_line.specs.declared.exit_status.ExitStatus.TheVariants as status
use Rattle.am_console.specs.Source.{IsNoJsonAt, IsReadAt}

-- a text is a value as JSON: read, it is the value. It has the value's fields and items, once each and in order, and its integers in
-- decimal. Without a float it is the value's text with no blank between tokens
pub record IsJsonOf (value : Data) (text : List ℕ) : Type 0 where
  pub reads_back : depth value ≤ max_depth → read text ≡ Some value
  pub in_order : IsInOrder text value
  pub written : has_float value ≡ false → text ≡ compact_text value

-- a line is a value as JSON
pub record IsValueLine (value : Data) (line : List ℕ) : Type 0 where
  pub json : List ℕ
  pub is_json : IsJsonOf value json
  pub line_is : line ≡ json ++ codes "\n"

-- a file is read as a value, and the line is that value
pub record IsFileLine (path given_before given line : List ℕ) : Type 0 where
  pub text : List ℕ
  pub value : Data
  pub read_is : IsReadAt path given_before given text value
  pub valued : IsValueLine value line

-- what a file comes to: its line where it is read, and else no text; where it is rejected its text is no JSON
abbrev pub EndsFile : List ℕ → List ℕ → List ℕ → ExitStatus → List ℕ → Type 0
EndsFile path given_before given status.Done text = IsFileLine path given_before given text
EndsFile path given_before given status.Unreadable text = text ≡ []
EndsFile path given_before given status.Rejected text = (text ≡ []) × IsNoJsonAt path given_before given
EndsFile path given_before given status.NoMemory text = text ≡ []
EndsFile path given_before given status.Unwritable text = ⊥
EndsFile path given_before given status.Unmet text = ⊥
EndsFile path given_before given status.Differs text = ⊥

-- the first of two statuses that isn't `Done`, if there is one
abbrev pub first_fault : ExitStatus → ExitStatus → ExitStatus
first_fault status.Done later = later
first_fault status.Unreadable later = status.Unreadable
first_fault status.Rejected later = status.Rejected
first_fault status.NoMemory later = status.NoMemory
first_fault status.Unwritable later = status.Unwritable
first_fault status.Unmet later = status.Unmet
first_fault status.Differs later = status.Differs

-- the files are read one after another, each comes to its text, in order, and the status is that of the first one that isn't read
abbrev pub EndFiles : List (List ℕ) → List ℕ → List ℕ → ExitStatus → List ℕ → Type 0
EndFiles [] given_before given end text = (given ≡ given_before) × (end ≡ status.Done) × (text ≡ [])
EndFiles (path ∷ paths) given_before given end text =
    (between line later : List ℕ) × (first rest : ExitStatus) × (text ≡ line ++ later) × (end ≡ first_fault first rest)
    × EndsFile path given_before between first line × EndFiles paths between given rest later
