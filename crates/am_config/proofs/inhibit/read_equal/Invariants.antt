use Rattle.std.proofs.Common.{take}
use Rattle.serde_json.specs.View.{items_view}
use Rattle.am_json.specs.Decoding.{DecodeEach}
use Rattle.am_config.specs.Collects.{Collects}
use Rattle.am_config.specs.Rules.{IsLabelName}
use Rattle.am_config.proofs.inhibit.read_equal.Given as goal

-- the names so far are those of the items so far
abbrev pub invariant-loop-index : goal.invariant-loop-index
invariant-loop-index l = Collects l.fn.faults l.faults (DecodeEach IsLabelName (items_view (take l.index l.items)) l.names.items)
