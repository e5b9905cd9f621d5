use Rattle.std.proofs.Common.{◌+◌, ◌*◌, map}
use Rattle.serde_json.specs.View.{members_view, view}
use Rattle.am_yaml.specs.Fields.{merged_in, own_in}
use Rattle.am_yaml.specs.Spelling.{AreItems, AreMembers, IsSequence, IsMapping}
use Rattle.am_yaml.proofs.spelling.Spelling.+spelled.Given as goal

-- the levels that are left, and within a level what is called last is smaller
abbrev pub decreases-node : goal.decreases-node
decreases-node l = 5 * l.around.levels + 3

abbrev pub decreases-content : goal.decreases-content
decreases-content l = 5 * l.around.levels + 2

abbrev pub decreases-untagged : goal.decreases-untagged
decreases-untagged l = 5 * l.around.levels + 1

abbrev pub decreases-sequence : goal.decreases-sequence
decreases-sequence l = 5 * l.around.levels

abbrev pub decreases-mapping : goal.decreases-mapping
decreases-mapping l = 5 * l.around.levels

abbrev pub decreases-flow_sequence : goal.decreases-flow_sequence
decreases-flow_sequence l = 5 * l.around.levels

abbrev pub decreases-flow_mapping : goal.decreases-flow_mapping
decreases-flow_mapping l = 5 * l.around.levels

abbrev pub decreases-item : goal.decreases-item
decreases-item l = 5 * l.below.levels + 4

abbrev pub decreases-member : goal.decreases-member
decreases-member l = 5 * l.below.levels + 4

abbrev pub decreases-flow_item : goal.decreases-flow_item
decreases-flow_item l = 5 * l.below.levels + 4

abbrev pub decreases-flow_member : goal.decreases-flow_member
decreases-flow_member l = 5 * l.below.levels + 4

abbrev pub invariant-sequence-loop : goal.invariant-sequence-loop
invariant-sequence-loop l =
    IsSequence l.self.text.now l.below.meaning l.column l.fn.start.at (members_view l.fn.anchors.entries)
    (map view l.items.items) l.spot.at (members_view l.anchors.entries)

abbrev pub invariant-mapping-loop : goal.invariant-mapping-loop
invariant-mapping-loop l =
    IsMapping l.self.text.now l.below.meaning l.column l.fn.start.at (members_view l.fn.anchors.entries)
    (own_in l.fields) (merged_in l.fields) l.spot.at (members_view l.anchors.entries)

abbrev pub invariant-flow_sequence-loop : goal.invariant-flow_sequence-loop
invariant-flow_sequence-loop l =
    AreItems l.self.text.now l.below.meaning (l.opening + 1) (members_view l.fn.anchors.entries)
    (map view l.items.items) l.is_ready l.spot.at (members_view l.anchors.entries)

abbrev pub invariant-flow_mapping-loop : goal.invariant-flow_mapping-loop
invariant-flow_mapping-loop l =
    AreMembers l.self.text.now l.below.meaning (l.opening + 1) (members_view l.fn.anchors.entries)
    (own_in l.fields) (merged_in l.fields) l.is_ready l.spot.at (members_view l.anchors.entries)
