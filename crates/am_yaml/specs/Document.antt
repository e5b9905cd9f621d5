-- What a text in JSON or YAML is read as.
use Rattle.std.specs.Prelude.{◌≡◌, ℕ, List, MatchOption, None, IsUtf8}
use Rattle.serde_json.specs.Data.{Data}
use Rattle.serde_json.specs.Read.{read}
use Rattle.am_yaml.specs.Spelling.{IsYamlOf}
use Rattle.am_yaml.specs.declared.document.DocumentFault.{DocumentFault}
use Rattle.am_yaml.specs.declared.document.DocumentFault.TheVariants.{NotText, NotJson, NotYaml, NoMemory}

-- a JSON text is read as its value, and another one as a value that it spells in YAML
abbrev pub IsReadAs : List ℕ → Data → Type 0
IsReadAs text value = MatchOption (read text) (IsYamlOf text value) (λ d. d ≡ value)

-- the bytes are no JSON text in UTF-8
abbrev pub IsNoJson : List ℕ → Type 0
IsNoJson text = IsUtf8 text → read text ≡ None

-- bytes are refused only where they are no JSON text, or for lack of memory
abbrev pub Refuses : List ℕ → DocumentFault → Type 0
Refuses text (NotText line column) = IsNoJson text
Refuses text (NotJson line column) = IsNoJson text
Refuses text (NotYaml fault) = IsNoJson text
Refuses text NoMemory = Unit {0}
