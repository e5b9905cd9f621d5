use Rattle.std.proofs.Common.{◌≡◌, ◌+◌, ◌++◌, ◌∷◌, ◌≤◌, ◌<◌, [], List, Bool, Option, None, true, false, ℕ, Vec, Global, map, slice_index}
use Rattle.std.proofs.lemmas.List.{map-append}
use Rattle.std.proofs.lemmas.Result.{IfOk-weaker}
use Rattle.serde_json.proofs.Views.{Entry, view-Array}
use Rattle.serde_json.specs.Data.{Data, Members, object}
use Rattle.serde_json.specs.View.{members_view, view}
use Rattle.serde_json.specs.declared.value.Value.{Value, Array}
use Rattle.am_yaml.specs.Behind.{AreFlowItemsBehind, AreFlowMembersBehind, IsFlat}
use Rattle.am_yaml.specs.Bytes.{IsGap}
use Rattle.am_yaml.specs.Merges.{Adds, joined}
use Rattle.am_yaml.specs.Scalars.{meaning_below}
use Rattle.am_yaml.specs.Spelling.{AreItems, AreMembers, AreProperties, IsContent, IsFlowSign, IsKey, IsMapping, IsNewName, IsNode, IsSequence, Reaches}
use Rattle.am_yaml.specs.Spelling.{anchored, entry_comma, flow_mapping, flow_sequence, mapping, next_entry, next_item, next_key}
use Rattle.am_yaml.specs.Spelling.{next_part, no_entries, no_items, no_keys, no_parts, node, part_comma, sequence}
use Rattle.am_yaml.specs.declared.parser.Meaning.{Meaning}
use Rattle.am_yaml.specs.declared.spelling.Place.{Place}
use Rattle.am_yaml.specs.declared.spelling.Place.TheVariants.{Block, FlowItem, FlowValue}
use Rattle.am_yaml.proofs.spelling.Spelling.+spelled.Goals as goal

-- between brackets a comma comes where no item can, and an item where one can
comma_behind : (text : List ℕ) (meaning : Meaning) (ready : Bool) (at to : ℕ) (anchors : Members) (values : List Data) → ready ≡ false
    → IsFlowSign text 44 at to → AreFlowItemsBehind text meaning ready at anchors values values to anchors
comma_behind text meaning false at to anchors values is sign = λ from start before. part_comma _ _ _ _ _ _ _ before sign
comma_behind text meaning true at to anchors values is sign = λ from start before. cc

item_behind : (text : List ℕ) (meaning : Meaning) (ready : Bool) (at to : ℕ) (middle after : Members) (values : List Data) (value : Data)
    → ready ≡ true → IsNode text FlowItem meaning at middle value to after
    → AreFlowItemsBehind text meaning ready at middle values (values ++ value ∷ []) to after
item_behind text meaning true at to middle after values value is item = λ from start before. next_part _ _ _ _ _ _ _ _ _ before item
item_behind text meaning false at to middle after values value is item = λ from start before. cc

-- and so between braces
comma_between : (text : List ℕ) (meaning : Meaning) (ready : Bool) (at to : ℕ) (anchors fields : Members) (merged : Option Members)
    → ready ≡ false → IsFlowSign text 44 at to → AreFlowMembersBehind text meaning ready at anchors fields merged fields merged to anchors
comma_between text meaning false at to anchors fields merged is sign = λ from start before. entry_comma _ _ _ _ _ _ _ _ before sign
comma_between text meaning true at to anchors fields merged is sign = λ from start before. cc

member_behind : (text : List ℕ) (meaning : Meaning) (ready : Bool) (at start behind to : ℕ) (middle after fields fields_now : Members)
    (merged merged_now : Option Members) (name : List ℕ) (merges : Bool) (value : Data) → ready ≡ true → IsGap text at start
    → IsKey text true start name merges behind → IsNode text FlowValue (meaning_below meaning name) behind middle value to after
    → Adds name value merges fields merged fields_now merged_now
    → AreFlowMembersBehind text meaning ready at middle fields merged fields_now merged_now to after
member_behind text meaning true at start behind to middle after fields fields_now merged merged_now name merges value is gap key item adds =
    λ from begin before. next_entry _ _ _ _ _ _ _ _ _ _ _ _ _ _ _ _ before gap key item adds
member_behind text meaning false at start behind to middle after fields fields_now merged merged_now name merges value is gap key item adds =
    λ from begin before. cc

-- a collection begins with no items and no fields
no_items_yet : (text : List ℕ) (meaning : Meaning) (column at : ℕ) (anchors : Members) (items : List Value) → items ≡ []
    → IsSequence text meaning column at anchors (map view items) at anchors
no_items_yet text meaning column at anchors items none = rw none (no_items _ _ _ _)

no_fields_yet : (text : List ℕ) (meaning : Meaning) (column at : ℕ) (anchors : Members) (fields : List Entry) → fields ≡ []
    → IsMapping text meaning column at anchors (members_view fields) None at anchors
no_fields_yet text meaning column at anchors fields none = rw none (no_keys _ _ _ _)

no_flow_items_yet : (text : List ℕ) (meaning : Meaning) (at : ℕ) (anchors : Members) (items : List Value) → items ≡ []
    → AreItems text meaning at anchors (map view items) true at anchors
no_flow_items_yet text meaning at anchors items none = rw none (no_parts _ _ _)

no_flow_fields_yet : (text : List ℕ) (meaning : Meaning) (at : ℕ) (anchors : Members) (fields : List Entry) → fields ≡ []
    → AreMembers text meaning at anchors (members_view fields) None true at anchors
no_flow_fields_yet text meaning at anchors fields none = rw none (no_entries _ _ _)

-- and it ends as what is written of a node
sequence_content : (text : List ℕ) (place : Place) (meaning inner : Meaning) (at column to end floor dashes : ℕ) (before after : Members)
    (items : Vec Value Global) → place ≡ Block floor dashes → inner ≡ meaning → dashes ≤ column → end ≡ to → at < to
    → IsSequence text inner column at before (map view items.items) to after
    → IsContent text place meaning false at before (view (Array items)) end after
sequence_content text place meaning inner at column to end floor dashes before after items is same least ended further all =
    rw (is, ended, view-Array)
    (sequence (Block floor dashes) meaning at column to before after (map view items.items) least further (rw same at all))

mapping_content : (text : List ℕ) (place : Place) (meaning inner : Meaning) (at column to end floor dashes : ℕ) (before after own : Members)
    (merged : Option Members) (value : Value) → place ≡ Block floor dashes → inner ≡ meaning → floor ≤ column → end ≡ to → at < to
    → view value ≡ object (joined own merged) → IsMapping text inner column at before own merged to after
    → IsContent text place meaning false at before (view value) end after
mapping_content text place meaning inner at column to end floor dashes before after own merged value is same least ended further whole all =
    rw (is, ended, whole)
    (mapping (Block floor dashes) meaning at column to before after own merged least further (rw same at all))

flow_sequence_content : (text : List ℕ) (place : Place) (meaning inner : Meaning) (at start last to : ℕ) (before after : Members) (ready : Bool)
    (items : Vec Value Global) → inner ≡ meaning → Reaches text place at start → slice_index text start ≡ 91
    → AreItems text inner (start + 1) before (map view items.items) ready last after → IsFlowSign text 93 last to
    → IsContent text place meaning false at before (view (Array items)) to after
flow_sequence_content text place meaning inner at start last to before after ready items same reaches sign all closing =
    rw view-Array (flow_sequence place meaning at start last to before after ready (map view items.items) reaches sign (rw same at all) closing)

flow_mapping_content : (text : List ℕ) (place : Place) (meaning inner : Meaning) (at start last to : ℕ) (before after own : Members)
    (merged : Option Members) (ready : Bool) (value : Value) → inner ≡ meaning → Reaches text place at start → slice_index text start ≡ 123
    → view value ≡ object (joined own merged) → AreMembers text inner (start + 1) before own merged ready last after
    → IsFlowSign text 125 last to → IsContent text place meaning false at before (view value) to after
flow_mapping_content text place meaning inner at start last to before after own merged ready value same reaches sign whole all closing =
    rw whole (flow_mapping place meaning at start last to before after own merged ready reaches sign (rw same at all) closing)

-- a node names its value
named_node : (text : List ℕ) (place : Place) (meaning : Meaning) (from at to : ℕ) (tag : Bool) (name : Option (List ℕ))
    (before middle after : Members) (value : Data) → AreProperties text from tag name at
    → IsContent text place meaning tag at before value to middle → IsNewName name middle → after ≡ anchored name value middle
    → IsNode text place meaning from before value to after
named_node text place meaning from at to tag name before middle after value properties content new is =
    rw is (node _ _ _ _ _ _ _ _ _ _ properties content new)

pub node-returns : goal.node-returns
node-returns t c = named_node _ _ _ _ _ _ _ _ _ _ _ _ c.in_ok-before.ensures c.in_ok-value.ensures c.in_ok-name_value.ensures.is_new c.in_ok-name_value.ensures.kept

pub content-returns-in-Empty : goal.content-returns-in-Empty
content-returns-in-Empty t c = IfOk-weaker _ (λ r. IsFlat _ _ _ _ _ (view r.0) r.1.at) _ (λ r flat. flat _) c.empty.ensures

pub content-returns-in-Scalar : goal.content-returns-in-Scalar
content-returns-in-Scalar t c = IfOk-weaker _ (λ r. IsFlat _ _ _ _ _ (view r.0) r.1.at) _ (λ r flat. flat _) c.scalar.ensures

pub content-returns-in-Block : goal.content-returns-in-Block
content-returns-in-Block t c = IfOk-weaker _ (λ r. IsFlat _ _ _ _ _ (view r.0) r.1.at) _ (λ r flat. flat _) c.block_scalar.ensures

pub sequence-loop-init : goal.sequence-loop-init
sequence-loop-init t c = no_items_yet _ _ _ _ _ _ c.new-items.ensures.items

pub sequence-returns-then-eq : goal.sequence-returns-then-eq
sequence-returns-then-eq t c =
    sequence_content _ _ _ _ _ _ _ _ _ _ _ _ c.loop.items c.in-Block.is c.in_ok-below.ensures.1 c.in_ok-column.ensures.0
    c.in_ok-end.ensures.0 c.in_ok-end.ensures.1 c.loop.invariant

pub mapping-loop-init : goal.mapping-loop-init
mapping-loop-init t c = no_fields_yet _ _ _ _ _ _ c.new.ensures.empty

pub mapping-returns-then-eq : goal.mapping-returns-then-eq
mapping-returns-then-eq t c =
    mapping_content _ _ _ _ _ _ _ _ _ _ _ _ _ _ _ c.in-Block.is c.in_ok-below.ensures.1 c.in_ok-column.ensures.0
    c.in_ok-end.ensures.0 c.in_ok-end.ensures.1 c.in_ok-joined.ensures c.loop.invariant

pub flow_sequence-loop-init : goal.flow_sequence-loop-init
flow_sequence-loop-init t c = no_flow_items_yet _ _ _ _ _ c.new-items.ensures.items

pub flow_sequence-returns-then-eq : goal.flow_sequence-returns-then-eq
flow_sequence-returns-then-eq t c =
    flow_sequence_content _ _ _ _ _ _ _ _ _ _ _ c.loop.items c.in_ok-below.ensures.1 c.in_ok-reach.ensures c.in_ok-flow_sign.ensures.1
    c.loop.invariant c.in_ok-end.ensures

pub flow_mapping-loop-init : goal.flow_mapping-loop-init
flow_mapping-loop-init t c = no_flow_fields_yet _ _ _ _ _ c.new.ensures.empty

pub flow_mapping-returns-then-eq : goal.flow_mapping-returns-then-eq
flow_mapping-returns-then-eq t c =
    flow_mapping_content _ _ _ _ _ _ _ _ _ _ _ _ _ _ c.in_ok-below.ensures.1 c.in_ok-reach.ensures c.in_ok-flow_sign.ensures.1
    c.in_ok-joined.ensures c.loop.invariant c.in_ok-end.ensures

pub item-returns : goal.item-returns
item-returns t c = λ from start before.
    rw (c.in_ok-push.ensures.items, map-append)
    (next_item _ _ _ _ _ _ _ _ _ _ _ before c.in_ok-gap.ensures c.in_ok-sign.ensures c.in_ok-in_column.ensures c.in_ok-value.ensures)

pub member-returns : goal.member-returns
member-returns t c = λ from start before.
    let item = rw (c.meaning_below.ensures, c.as_str-key.ensures.value) at c.in_ok-value.ensures in
    let adds = rw c.as_str-key.ensures.value at c.in_ok-put_in.ensures in
    next_key _ _ _ _ _ _ _ _ _ _ _ _ _ _ _ _ _ before c.in_ok-gap.ensures c.in_ok-in_column.ensures c.in_ok-name.ensures item adds

pub flow_item-returns-then-not-is_ready : goal.flow_item-returns-then-not-is_ready
flow_item-returns-then-not-is_ready t c =
    IfOk-weaker _ (λ n. IsFlowSign _ 44 _ n.at) _ (λ n sign. comma_behind _ _ _ _ _ _ _ c.if-not-is_ready.true sign) c.next_sign.ensures

pub flow_item-returns : goal.flow_item-returns
flow_item-returns t c = λ from start before.
    rw (c.in_ok-push.ensures.items, map-append) (item_behind _ _ _ _ _ _ _ _ _ c.if-not-is_ready.false c.in_ok-value.ensures from start before)

pub flow_member-returns-then-not-is_ready : goal.flow_member-returns-then-not-is_ready
flow_member-returns-then-not-is_ready t c =
    IfOk-weaker _ (λ n. IsFlowSign _ 44 _ n.at) _ (λ n sign. comma_between _ _ _ _ _ _ _ _ c.if-not-is_ready.true sign) c.next_sign.ensures

pub flow_member-returns : goal.flow_member-returns
flow_member-returns t c = λ from start before.
    let item = rw (c.meaning_below.ensures, c.as_str-key.ensures.value) at c.in_ok-value.ensures in
    let adds = rw c.as_str-key.ensures.value at c.in_ok-put_in.ensures in
    member_behind _ _ _ _ _ _ _ _ _ _ _ _ _ _ _ _ c.if-not-is_ready.false c.in_ok-gap.ensures c.in_ok-name.ensures item adds from start before
