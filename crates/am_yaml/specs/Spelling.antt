-- How a text in YAML spells a value: the rules of YAML 1.2 for the part of it that is read here.
use Rattle.std.specs.Prelude.{◌≡◌, ◌+◌, ◌-◌, ◌≤◌, ◌<◌, ℕ, List, [], ◌∷◌, ◌++◌, Bool, true, false, not, ◌&&◌, ◌||◌, ◌==◌}
use Rattle.std.specs.Prelude.{Option, Some, None, filter, fold, drop, length, nat_lt, slice_index, slice_range, if◌then◌else◌, codes}
use Rattle.std.specs.Prelude.{IsUtf8}
use Rattle.std.specs.Str.{bytes_eq}
use Rattle.serde_json.specs.Data.{Data, null, string, array, object, Members, no_members, put}
use Rattle.serde_json.specs.Find.{get_member}
use Rattle.serde_json.specs.Read.{read}
use Rattle.serde_json.specs.View.{items_of}
use Rattle.am_yaml.specs.Blocks.{Lines, chomp_in, depth_in, is_indent_by, lines_of, signs_in, text_of}
use Rattle.am_yaml.specs.Bytes.{IsGap, IsSign, are_blanks, column_of, is_space}
use Rattle.am_yaml.specs.Escapes.{IsUnescaped}
use Rattle.am_yaml.specs.Merges.{Adds, joined}
use Rattle.am_yaml.specs.Scalars.{IsMeant, are_of_names, closes, ends_word, folded, is_indented, is_one_line, is_plain, is_quote}
use Rattle.am_yaml.specs.Scalars.{is_block_sign, is_of_names, meaning_at, meaning_below, no_pairs, pairs_after}
use Rattle.am_yaml.specs.declared.scalars.Quote.TheVariants.{Closed}
use Rattle.am_yaml.specs.declared.parser.Meaning.{Meaning}
use Rattle.am_yaml.specs.declared.parser.Meaning.TheVariants.{Core}
use Rattle.am_yaml.specs.declared.spelling.Place.{Place}
use Rattle.am_yaml.specs.declared.spelling.Place.TheVariants.{Block, FlowItem, FlowValue}

-- whether a place is between brackets or braces
abbrev pub in_flow : Place → Bool
in_flow (Block floor dashes) = false
in_flow FlowItem = true
in_flow FlowValue = true

-- the least column of what is at a place
abbrev pub floor_of : Place → ℕ
floor_of (Block floor dashes) = floor
floor_of FlowItem = 0
floor_of FlowValue = 0

-- a sequence with its dashes in a column, or a mapping with its keys there, can be at a place
abbrev pub AllowsDashes : Place → ℕ → Type 0
AllowsDashes (Block floor dashes) column = dashes ≤ column
AllowsDashes FlowItem column = ⊥
AllowsDashes FlowValue column = ⊥

abbrev pub AllowsKeys : Place → ℕ → Type 0
AllowsKeys (Block floor dashes) column = floor ≤ column
AllowsKeys FlowItem column = ⊥
AllowsKeys FlowValue column = ⊥

-- a node can be left out there
abbrev pub can_be_empty : Place → Bool
can_be_empty (Block floor dashes) = true
can_be_empty FlowItem = false
can_be_empty FlowValue = true

-- a line of a text begins at an offset
abbrev pub begins_line : List ℕ → ℕ → Bool
begins_line text at = at == 0 || slice_index text (at - 1) == 10

-- `---` or `...` is at an offset, and a space or the text's end behind it
abbrev pub is_marker : List ℕ → ℕ → Bool
is_marker text at =
    ((slice_index text at == 45 || slice_index text at == 46) && slice_index text (at + 1) == slice_index text at)
    && (slice_index text (at + 2) == slice_index text at && ends_word (slice_index text (at + 3)))

-- no line begins with a marker in this part of a text
abbrev pub HasNoMarker : List ℕ → ℕ → ℕ → Type 0
HasNoMarker text from to = (at : ℕ) → from ≤ at → at < to → begins_line text at ≡ true → is_marker text at ≡ false

-- a scalar in single quotes
pub record IsSingle (text : List ℕ) (from to : ℕ) (found : List ℕ) : Type 0 where
  pub order : from + 2 ≤ to
  pub opens : slice_index text from ≡ 39
  pub closed : slice_index text (to - 1) ≡ 39
  pub paired : (fold pairs_after no_pairs (slice_range text (from + 1) (to - 1))).quote ≡ Closed
  pub is : found ≡ folded (fold pairs_after no_pairs (slice_range text (from + 1) (to - 1))).found

-- a plain scalar, whose further lines begin at a column of the floor at least
pub record IsPlain (text : List ℕ) (flow : Bool) (floor from to : ℕ) (found : List ℕ) : Type 0 where
  pub plain : is_plain flow (slice_index text to) (slice_range text from to) ≡ true
  pub indented : is_indented floor (slice_range text from to) ≡ true
  pub is : found ≡ folded (slice_range text from to)

-- what is between the first double quote and the next one that isn't behind a backslash
pub record IsEscaped (text : List ℕ) (from to : ℕ) (found : List ℕ) : Type 0 where
  pub order : from + 2 ≤ to
  pub closed : closes (drop 1 (slice_range text from to)) ≡ true
  pub inner : IsUnescaped (slice_range text (from + 1) (to - 1)) found

-- A scalar in double quotes: its text is JSON's, if it is a text in JSON, and else it has further escapes or lines.
pub data IsDouble (text : List ℕ) (from to : ℕ) : List ℕ → Type 0 where
  json : (found : List ℕ) → slice_index text from ≡ 34 → read (slice_range text from to) ≡ Some (string found) → IsDouble text from to found
  escaped : (found : List ℕ) → (IsUtf8 (slice_range text from to) → read (slice_range text from to) ≡ None) → slice_index text from ≡ 34
      → IsEscaped text from to found → IsDouble text from to found

-- the text of a scalar from one offset to another, plain or in quotes
pub data IsText (text : List ℕ) (flow : Bool) (floor from to : ℕ) : List ℕ → Type 0 where
  in_plain : (found : List ℕ) → HasNoMarker text from to → IsPlain text flow floor from to found → IsText text flow floor from to found
  in_single : (found : List ℕ) → HasNoMarker text from to → IsSingle text from to found → IsText text flow floor from to found
  in_double : (found : List ℕ) → HasNoMarker text from to → IsDouble text from to found → IsText text flow floor from to found

-- the sign of a block scalar and those behind it, and where their line ends
pub record IsHeader (text : List ℕ) (from line : ℕ) : Type 0 where
  pub begins : is_block_sign (slice_index text from) ≡ true
  pub gap : IsGap text (from + 1 + signs_in (slice_index text (from + 1)) (slice_index text (from + 2))) line
  pub one_line : is_one_line (slice_range text from line) ≡ true
  pub ends : (line == length text || slice_index text line == 10) ≡ true

-- The lines of a block scalar end at an offset: with the text, or before a line that is indented less and isn't empty.
abbrev pub stops_before : List ℕ → ℕ → ℕ → Bool
stops_before text indent stop =
    (not (slice_index text stop == 10) && not (slice_index text stop == 32))
    && (nat_lt (column_of text stop) indent || (stop == length text && column_of text stop == indent))

pub record IsBlockEnd (text : List ℕ) (indent to : ℕ) : Type 0 where
  pub stop : ℕ
  pub order : to ≤ stop
  pub blanks : are_blanks (slice_range text to stop) ≡ true
  pub whole : (to == length text || stops_before text indent stop) ≡ true

-- the lines of a block scalar from where the line of its signs ends
abbrev pub lines_at : List ℕ → ℕ → ℕ → ℕ → ℕ → Lines
lines_at text indent from line to = lines_of (slice_index text from == 62) indent (slice_range text line to)

-- a block scalar, whose lines are indented further than what is around it, and its text
pub record IsBlock (text : List ℕ) (floor from to : ℕ) (found : List ℕ) : Type 0 where
  pub indent : ℕ
  pub line : ℕ
  pub least : floor ≤ indent
  pub some : 0 < indent
  pub header : IsHeader text from line
  pub indented : is_indented indent (slice_range text from to) ≡ true
  pub by : is_indent_by (depth_in (slice_index text (from + 1)) (slice_index text (from + 2))) floor indent
      (lines_at text indent from line to) ≡ true
  pub end : IsBlockEnd text indent to
  pub is : found ≡ text_of (chomp_in (slice_index text (from + 1)) (slice_index text (from + 2))) (lines_at text indent from line to)

-- this sign, and behind it all the letters, digits, `_` and `-` of a name
pub record IsName (text : List ℕ) (sign from to : ℕ) : Type 0 where
  pub order : from + 2 ≤ to
  pub within : to ≤ length text
  pub begins : slice_index text from ≡ sign
  pub letters : are_of_names (slice_range text (from + 1) to) ≡ true
  pub whole : is_of_names (slice_index text to) ≡ false

-- the name behind a sign
abbrev pub name_in : List ℕ → ℕ → ℕ → List ℕ
name_in text from to = slice_range text (from + 1) to

-- the tag `!!str`
pub record IsTag (text : List ℕ) (from to : ℕ) : Type 0 where
  pub is : slice_range text from to ≡ codes "!!str"
  pub alone : ends_word (slice_index text to) ≡ true

-- An anchor and the tag `!!str`, if they are there, from one offset to another: whether the tag is there, and the anchor's name.
pub data AreProperties (text : List ℕ) (from : ℕ) : Bool → Option (List ℕ) → ℕ → Type 0 where
  no_property : AreProperties text from false None from
  anchor : (tagged : Bool) (at start to : ℕ) → AreProperties text from tagged None at → IsGap text at start → IsName text 38 start to
      → AreProperties text from tagged (Some (name_in text start to)) to
  tag : (name : Option (List ℕ)) (at start to : ℕ) → AreProperties text from false name at → IsGap text at start → IsTag text start to
      → AreProperties text from true name to

-- a node begins at an offset behind a gap, in a column that its place allows
pub record Reaches (text : List ℕ) (place : Place) (from to : ℕ) : Type 0 where
  pub gap : IsGap text from to
  pub column : in_flow place ≡ false → floor_of place ≤ column_of text to

-- the values of anchors by their names, with one more if a node has an anchor
abbrev pub anchored : Option (List ℕ) → Data → Members → Members
anchored None value anchors = anchors
anchored (Some name) value anchors = put name value anchors

-- no other node before has the anchor
abbrev pub IsNewName : Option (List ℕ) → Members → Type 0
IsNewName None anchors = Unit {0}
IsNewName (Some name) anchors = get_member name anchors ≡ None

-- A key of a mapping on one line, and its colon, behind which `to` is. It is a merge key if it is `<<` without quotes.
pub record IsKey (text : List ℕ) (flow : Bool) (from : ℕ) (name : List ℕ) (merges : Bool) (to : ℕ) : Type 0 where
  pub end : ℕ
  pub colon : ℕ
  pub text_is : IsText text flow 0 from end name
  pub one_line : is_one_line (slice_range text from end) ≡ true
  pub order : end ≤ colon
  pub within : colon < length text
  pub blanks : are_blanks (slice_range text end colon) ≡ true
  pub sign : slice_index text colon ≡ 58
  pub behind : to ≡ colon + 1
  pub apart : ((is_quote (slice_index text from) && flow) || ends_word (slice_index text to)) ≡ true
  pub merging : merges ≡ (not (is_quote (slice_index text from)) && bytes_eq name (codes "<<"))

-- a sign behind a gap, behind which `to` is
pub record IsFlowSign (text : List ℕ) (byte from to : ℕ) : Type 0 where
  pub at : ℕ
  pub gap : IsGap text from at
  pub sign : slice_index text at ≡ byte
  pub behind : to ≡ at + 1

mutual
  -- From one offset of a text to another is a node of this value, at a place where plain scalars have this meaning. Before it anchors have
  -- named these values, and behind it also its own.
  pub data IsNode (text : List ℕ) : Place → Meaning → ℕ → Members → Data → ℕ → Members → Type 0 where
    node : (place : Place) (meaning : Meaning) (from at to : ℕ) (tag : Bool) (name : Option (List ℕ)) (before after : Members)
        (value : Data)
        → AreProperties text from tag name at → IsContent text place meaning tag at before value to after → IsNewName name after
        → IsNode text place meaning from before value to (anchored name value after)

  -- what is written of a node behind its properties, tagged or not
  pub data IsContent (text : List ℕ) : Place → Meaning → Bool → ℕ → Members → Data → ℕ → Members → Type 0 where
    empty : (place : Place) (meaning : Meaning) (at : ℕ) (anchors : Members) → can_be_empty place ≡ true
        → IsContent text place meaning false at anchors null at anchors
    tagged : (place : Place) (meaning : Meaning) (at : ℕ) (anchors : Members)
        → IsContent text place meaning true at anchors (string []) at anchors
    plain : (place : Place) (meaning : Meaning) (tag : Bool) (at start to : ℕ) (anchors : Members) (found : List ℕ) (value : Data)
        → Reaches text place at start → IsText text (in_flow place) (floor_of place) start to found
        → is_quote (slice_index text start) ≡ false → IsMeant (meaning_at tag meaning) found value
        → IsContent text place meaning tag at anchors value to anchors
    quoted : (place : Place) (meaning : Meaning) (tag : Bool) (at start to : ℕ) (anchors : Members) (found : List ℕ)
        → Reaches text place at start → IsText text (in_flow place) (floor_of place) start to found
        → is_quote (slice_index text start) ≡ true → IsContent text place meaning tag at anchors (string found) to anchors
    block : (place : Place) (meaning : Meaning) (tag : Bool) (at start to : ℕ) (anchors : Members) (found : List ℕ)
        → Reaches text place at start → in_flow place ≡ false → IsBlock text (floor_of place) start to found
        → IsContent text place meaning tag at anchors (string found) to anchors
    alias : (place : Place) (meaning : Meaning) (at start to : ℕ) (anchors : Members) (value : Data) → Reaches text place at start
        → IsName text 42 start to → get_member (name_in text start to) anchors ≡ Some value
        → IsContent text place meaning false at anchors value to anchors
    sequence : (place : Place) (meaning : Meaning) (at column to : ℕ) (before after : Members) (values : List Data)
        → AllowsDashes place column → at < to → IsSequence text meaning column at before values to after
        → IsContent text place meaning false at before (array (items_of values)) to after
    mapping : (place : Place) (meaning : Meaning) (at column to : ℕ) (before after members : Members) (merged : Option Members)
        → AllowsKeys place column → at < to → IsMapping text meaning column at before members merged to after
        → IsContent text place meaning false at before (object (joined members merged)) to after
    flow_sequence : (place : Place) (meaning : Meaning) (at start last to : ℕ) (before after : Members) (ready : Bool) (values : List Data)
        → Reaches text place at start → slice_index text start ≡ 91 → AreItems text meaning (start + 1) before values ready last after
        → IsFlowSign text 93 last to → IsContent text place meaning false at before (array (items_of values)) to after
    flow_mapping : (place : Place) (meaning : Meaning) (at start last to : ℕ) (before after members : Members) (merged : Option Members)
        (ready : Bool) → Reaches text place at start → slice_index text start ≡ 123
        → AreMembers text meaning (start + 1) before members merged ready last after → IsFlowSign text 125 last to
        → IsContent text place meaning false at before (object (joined members merged)) to after

  -- items with their dashes in one column, in order
  pub data IsSequence (text : List ℕ) : Meaning → ℕ → ℕ → Members → List Data → ℕ → Members → Type 0 where
    no_items : (meaning : Meaning) (column from : ℕ) (anchors : Members) → IsSequence text meaning column from anchors [] from anchors
    next_item : (meaning : Meaning) (column from at dash to : ℕ) (before middle after : Members) (values : List Data) (value : Data)
        → IsSequence text meaning column from before values at middle → IsGap text at dash → IsSign text 45 dash
        → column_of text dash ≡ column → IsNode text (Block (column + 1) (column + 1)) meaning (dash + 1) middle value to after
        → IsSequence text meaning column from before (values ++ value ∷ []) to after

  -- members with their keys in one column, one after another and none twice, and what was merged
  pub data IsMapping (text : List ℕ) : Meaning → ℕ → ℕ → Members → Members → Option Members → ℕ → Members → Type 0 where
    no_keys : (meaning : Meaning) (column from : ℕ) (anchors : Members)
        → IsMapping text meaning column from anchors no_members None from anchors
    next_key : (meaning : Meaning) (column from at start behind to : ℕ) (before middle after members members_now : Members)
        (merged merged_now : Option Members) (name : List ℕ) (merges : Bool) (value : Data)
        → IsMapping text meaning column from before members merged at middle → IsGap text at start
        → column_of text start ≡ column → IsKey text false start name merges behind
        → IsNode text (Block (column + 1) column) (meaning_below meaning name) behind middle value to after
        → Adds name value merges members merged members_now merged_now
        → IsMapping text meaning column from before members_now merged_now to after

  -- items with a comma between two and perhaps behind the last; ready: an item can come next
  pub data AreItems (text : List ℕ) : Meaning → ℕ → Members → List Data → Bool → ℕ → Members → Type 0 where
    no_parts : (meaning : Meaning) (from : ℕ) (anchors : Members) → AreItems text meaning from anchors [] true from anchors
    next_part : (meaning : Meaning) (from at to : ℕ) (before middle after : Members) (values : List Data) (value : Data)
        → AreItems text meaning from before values true at middle → IsNode text FlowItem meaning at middle value to after
        → AreItems text meaning from before (values ++ value ∷ []) false to after
    part_comma : (meaning : Meaning) (from at to : ℕ) (before after : Members) (values : List Data)
        → AreItems text meaning from before values false at after → IsFlowSign text 44 at to
        → AreItems text meaning from before values true to after

  -- members in the same way
  pub data AreMembers (text : List ℕ) : Meaning → ℕ → Members → Members → Option Members → Bool → ℕ → Members → Type 0 where
    no_entries : (meaning : Meaning) (from : ℕ) (anchors : Members) → AreMembers text meaning from anchors no_members None true from anchors
    next_entry : (meaning : Meaning) (from at start behind to : ℕ) (before middle after members members_now : Members)
        (merged merged_now : Option Members) (name : List ℕ) (merges : Bool) (value : Data)
        → AreMembers text meaning from before members merged true at middle → IsGap text at start
        → IsKey text true start name merges behind → IsNode text FlowValue (meaning_below meaning name) behind middle value to after
        → Adds name value merges members merged members_now merged_now
        → AreMembers text meaning from before members_now merged_now false to after
    entry_comma : (meaning : Meaning) (from at to : ℕ) (before after members : Members) (merged : Option Members)
        → AreMembers text meaning from before members merged false at after → IsFlowSign text 44 at to
        → AreMembers text meaning from before members merged true to after

-- a line `---` or `...` begins at an offset
pub record IsMarker (text : List ℕ) (byte at : ℕ) : Type 0 where
  pub is : slice_range text at (at + 3) ≡ byte ∷ byte ∷ byte ∷ []
  pub within : at + 3 ≤ length text
  pub alone : (at + 3 == length text || is_space (slice_index text (at + 3))) ≡ true
  pub column : column_of text at ≡ 0

-- a document begins with the text, or behind a first line `---`
pub data IsStart (text : List ℕ) : ℕ → Type 0 where
  starts_at_once : IsStart text 0
  starts_marked : (at : ℕ) → IsGap text 0 at → IsMarker text 45 at → IsStart text (at + 3)

-- behind a document is nothing, or a line `...` and nothing
pub data IsEnd (text : List ℕ) : ℕ → Type 0 where
  ends_at_once : (from : ℕ) → IsGap text from (length text) → IsEnd text from
  ends_marked : (from at : ℕ) → IsGap text from at → IsMarker text 46 at → IsGap text (at + 3) (length text) → IsEnd text from

-- a text whose lines end as on Unix spells a value
pub record IsSpelledIn (text : List ℕ) (value : Data) : Type 0 where
  pub start : ℕ
  pub end : ℕ
  pub anchors : Members
  pub starts : IsStart text start
  pub node : IsNode text (Block 0 0) Core start no_members value end anchors
  pub ends : IsEnd text end

-- how many bytes the byte order mark takes at the beginning of a text
abbrev pub mark_of : List ℕ → ℕ
mark_of text = if slice_index text 0 == 239 && slice_index text 1 == 187 && slice_index text 2 == 191 then 3 else 0

-- a text without carriage returns
abbrev pub without_returns : List ℕ → List ℕ
without_returns text = filter (λ byte. not (byte == 13)) text

-- a text spells a value, whose lines end as on Unix or on Windows, behind a byte order mark or none
abbrev pub IsYamlOf : List ℕ → Data → Type 0
IsYamlOf text value = IsSpelledIn (without_returns (drop (mark_of text) text)) value
