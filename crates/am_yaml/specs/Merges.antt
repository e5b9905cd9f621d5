-- What a key adds to a mapping, and what a merge key, `<<`, does.
use Rattle.std.specs.Prelude.{◌≡◌, ℕ, List, Bool, true, false, Option, Some, None, is_some, option_and_then, option_map, if◌then◌else◌}
use Rattle.serde_json.specs.Data.{Data, null, boolean, number, string, array, object, Items, no_items, item, Members, no_members}
use Rattle.serde_json.specs.Data.{member, put}
use Rattle.serde_json.specs.Find.{as_object, get_member}

-- the members, with one more if none has its name
abbrev pub put_missing : List ℕ → Data → Members → Members
put_missing name value members = if is_some (get_member name members) then members else put name value members

-- the members, and those of others whose names they don't have
abbrev pub with_missing : Members → Members → Members
with_missing members no_members = members
with_missing members (member name value others) = with_missing (put_missing name value members) others

-- the members, and those of a mapping
abbrev pub with_mapping : Members → Data → Option Members
with_mapping members value = option_map (with_missing members) (as_object value)

-- the members, and those of each mapping of these items, of which the first has precedence
abbrev pub with_items : Members → Items → Option Members
with_items members no_items = Some members
with_items members (item value items) = option_and_then (λ more. with_items more items) (with_mapping members value)

-- the members that were merged, and those of one more mapping, or of a sequence of mappings
abbrev pub merged_with : Members → Data → Option Members
merged_with _ null = None
merged_with _ (boolean b) = None
merged_with _ (number n) = None
merged_with _ (string s) = None
merged_with members (array items) = with_items members items
merged_with members (object others) = Some (with_missing members others)

-- A key with a value adds a member, whose name no other has. A merge key, which is the only one, merges the value.
pub data Adds (name : List ℕ) (value : Data) : Bool → Members → Option Members → Members → Option Members → Type 0 where
  adds_member : (members : Members) (merged : Option Members) → get_member name members ≡ None
      → Adds name value false members merged (put name value members) merged
  merges : (members merged : Members) → merged_with no_members value ≡ Some merged → Adds name value true members None members (Some merged)

-- the members of a mapping, and of what it merges those whose names it doesn't have
abbrev pub joined : Members → Option Members → Members
joined members None = members
joined members (Some merged) = with_missing members merged
