-- What single values are seen as.
use Rattle.std.proofs.Common.{◌≡◌, String, Global, string_bytes, rules}
use Rattle.serde_json.specs.Data.{null, string}
use Rattle.serde_json.specs.View.{view}
use Rattle.serde_json.specs.declared.value.Value.{the_lemmas}
use Rattle.serde_json.specs.declared.value.Value.TheVariants as value

pub view_string : (s : String Global) → view (value.String s) ≡ string (string_bytes s)
view_string s = search (rules, the_lemmas)

pub view_null : view value.Null ≡ null
view_null = search (rules, the_lemmas)
