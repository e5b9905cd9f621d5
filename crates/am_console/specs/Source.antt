-- Source: what is read from a source, and why nothing is.
use Rattle.std.specs.Prelude.{◌≡◌, ℕ, ◌+◌, ◌++◌, List, codes, if◌then◌else◌}
use Rattle.std.specs.Str.{bytes_eq}
use Rattle.serde_json.specs.Data.{Data}
use Rattle.am_json.specs.declared.transfer.ReadFault.{ReadFault}
use Rattle.am_json.specs.declared.transfer.ReadFault.TheVariants as read
use Rattle.am_console.specs.declared.files.FileFault.TheVariants as file
use Rattle.am_console.specs.declared.files.Unread.{Unread}
use Rattle.am_console.specs.declared.files.Unread.TheVariants as unread
use Rattle.am_console.specs.declared.source.SourceFault.{SourceFault}
use Rattle.am_console.specs.declared.source.SourceFault.TheVariants as source
use Rattle.am_yaml.specs.Document.{IsNoJson, IsReadAs}
use Rattle.am_yaml.specs.declared.document.DocumentFault.{DocumentFault}
use Rattle.am_yaml.specs.declared.document.DocumentFault.TheVariants as document

-- a source that isn't read is a fault of the same name
abbrev pub fault_of_read : ReadFault → SourceFault
fault_of_read read.Unreadable = source.Unreadable
fault_of_read read.NoMemory = source.NoMemory

-- and so is a text without a value
abbrev pub fault_of_document : DocumentFault → SourceFault
fault_of_document (document.NotText line column) = source.NotRead (document.NotText line column)
fault_of_document (document.NotJson line column) = source.NotRead (document.NotJson line column)
fault_of_document (document.NotYaml fault) = source.NotRead (document.NotYaml fault)
fault_of_document document.NoMemory = source.NoMemory

-- what a source gave between two lists of given bytes is a text, and this is its value: that of a JSON text where it is one
pub record IsReadFrom (given_before given text : List ℕ) (value : Data) : Type 0 where
  pub given_is : given ≡ given_before ++ text
  pub read_is : IsReadAs text value

-- the name of a file as people see it
abbrev pub shown_name : List ℕ → List ℕ
shown_name path = if bytes_eq path (codes "-") then codes "<stdin>" else path

-- a file is read as a text with this value. Standard input, whose path is `-`, gave that text
pub record IsReadAt (path given_before given text : List ℕ) (value : Data) : Type 0 where
  pub read_is : IsReadAs text value
  pub given_is : path ≡ codes "-" → given ≡ given_before ++ text

-- a file's text is no JSON. Standard input, whose path is `-`, gave that text
pub record IsNoJsonAt (path given_before given : List ℕ) : Type 0 where
  pub text : List ℕ
  pub no_json : IsNoJson text
  pub given_is : path ≡ codes "-" → given ≡ given_before ++ text

-- a text without a value is a fault of the text, and another fault is the file's
abbrev pub fault_of_source : SourceFault → Unread
fault_of_source source.Unreadable = unread.File file.Unreadable
fault_of_source (source.NotRead fault) = unread.Text fault
fault_of_source source.NoMemory = unread.File file.NoMemory

-- a text is the fault only where it is no JSON
abbrev pub RefusesFile : List ℕ → List ℕ → List ℕ → Unread → Type 0
RefusesFile path given_before given (unread.File fault) = Unit {0}
RefusesFile path given_before given (unread.Text fault) = IsNoJsonAt path given_before given

-- what it gave is a text to its end, which is no JSON
pub record IsNotRead (given_before given : List ℕ) (ended_before ended : ℕ) : Type 0 where
  pub text : List ℕ
  pub no_json : IsNoJson text
  pub given_is : given ≡ given_before ++ text
  pub ended_is : ended ≡ ended_before + 1

-- a text is refused only where it was given to its end and is no JSON
abbrev pub RefusesSource : List ℕ → List ℕ → ℕ → ℕ → SourceFault → Type 0
RefusesSource given_before given ended_before ended source.Unreadable = Unit {0}
RefusesSource given_before given ended_before ended (source.NotRead fault) = IsNotRead given_before given ended_before ended
RefusesSource given_before given ended_before ended source.NoMemory = Unit {0}
