-- What goes on behind a part of a text that is confirmed.
use Rattle.std.specs.Prelude.{ℕ, List, Bool, Option, not}
use Rattle.serde_json.specs.Data.{Data, Members}
use Rattle.am_yaml.specs.Spelling.{AreItems, AreMembers, AreProperties, IsContent, IsMapping, IsSequence}
use Rattle.am_yaml.specs.declared.parser.Meaning.{Meaning}
use Rattle.am_yaml.specs.declared.spelling.Place.{Place}

-- behind properties up to an offset is what is written of a node of this value, whatever anchors named before, and it names nothing
abbrev pub IsFlat : List ℕ → Place → Meaning → Bool → ℕ → Data → ℕ → Type 0
IsFlat text place meaning tagged at value to = (anchors : Members) → IsContent text place meaning tagged at anchors value to anchors

-- properties up to an offset go on to another, wherever they begin
abbrev pub ArePropertiesBehind : List ℕ → Bool → Option (List ℕ) → ℕ → Bool → Option (List ℕ) → ℕ → Type 0
ArePropertiesBehind text tagged name at tagged_now name_now to =
    (from : ℕ) → AreProperties text from tagged name at → AreProperties text from tagged_now name_now to

-- the items of a sequence up to an offset go on to another
abbrev pub AreItemsBehind : List ℕ → Meaning → ℕ → ℕ → Members → List Data → List Data → ℕ → Members → Type 0
AreItemsBehind text meaning column at middle values values_now to after =
    (from : ℕ) (before : Members) → IsSequence text meaning column from before values at middle
    → IsSequence text meaning column from before values_now to after

-- the members of a mapping likewise
abbrev pub AreMembersBehind :
    List ℕ → Meaning → ℕ → ℕ → Members → Members → Option Members → Members → Option Members → ℕ → Members → Type 0
AreMembersBehind text meaning column at middle members merged members_now merged_now to after =
    (from : ℕ) (before : Members) → IsMapping text meaning column from before members merged at middle
    → IsMapping text meaning column from before members_now merged_now to after

-- items between brackets likewise, after which a comma can come where an item could, and an item where a comma could
abbrev pub AreFlowItemsBehind : List ℕ → Meaning → Bool → ℕ → Members → List Data → List Data → ℕ → Members → Type 0
AreFlowItemsBehind text meaning ready at middle values values_now to after =
    (from : ℕ) (before : Members) → AreItems text meaning from before values ready at middle
    → AreItems text meaning from before values_now (not ready) to after

-- members between braces likewise
abbrev pub AreFlowMembersBehind :
    List ℕ → Meaning → Bool → ℕ → Members → Members → Option Members → Members → Option Members → ℕ → Members → Type 0
AreFlowMembersBehind text meaning ready at middle members merged members_now merged_now to after =
    (from : ℕ) (before : Members) → AreMembers text meaning from before members merged ready at middle
    → AreMembers text meaning from before members_now merged_now (not ready) to after
