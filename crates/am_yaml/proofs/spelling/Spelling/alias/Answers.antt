use Rattle.std.proofs.Common.{◌≡◌, Option, Some, List, ℕ, option_map, false, sym}
use Rattle.serde_json.specs.Data.{Members}
use Rattle.serde_json.specs.Find.{get_member}
use Rattle.serde_json.specs.View.{view}
use Rattle.serde_json.specs.declared.value.Value.{Value}
use Rattle.am_yaml.specs.Spelling.{IsContent, IsName, Reaches, alias, name_in}
use Rattle.am_yaml.specs.declared.parser.Meaning.{Meaning}
use Rattle.am_yaml.specs.declared.spelling.Place.{Place}
use Rattle.am_yaml.proofs.spelling.Spelling.alias.Goals as goal

content_of_alias : (text : List ℕ) (place : Place) (meaning : Meaning) (at start to end : ℕ) (anchors : Members) (name : List ℕ)
    (found : Option Value) (value : Value) → Reaches text place at start → IsName text 42 start to → name ≡ name_in text start to
    → option_map view found ≡ get_member name anchors → found ≡ Some value → end ≡ to
    → IsContent text place meaning false at anchors (view value) end anchors
content_of_alias text place meaning at start to end anchors name found value reaches named same finds is ended =
    rw ended (alias _ _ _ _ _ _ _ reaches named (rw (is, same) at (sym finds)))

pub returns-in-Some : goal.returns-in-Some
returns-in-Some c =
    content_of_alias _ _ _ _ _ _ _ _ _ _ _ c.in_ok-reach.ensures c.in_ok-name.ensures.0 c.in_ok-name.ensures.1 c.in_ok-value.ensures c.in-Some.is c.behind.ensures
