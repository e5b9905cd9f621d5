use Rattle.std.proofs.Common.{◌≡◌, take}
use Rattle.serde_json.specs.View.{items_view}
use Rattle.am_json.specs.Decoding.{DecodeEach}
use Rattle.am_config.specs.Collects.{Collects}
use Rattle.am_config.specs.Times.{IsPlaced}
use Rattle.am_config.proofs.definitions.read_placed.Given as goal

-- the intervals so far are those of the items so far, by the same clocks
abbrev pub invariant-loop-index : goal.invariant-loop-index
invariant-loop-index l = record {
  hours : l.clocks ≡ l.fn.clocks;
  placed : Collects l.fn.faults l.faults (DecodeEach (IsPlaced l.fn.clocks) (items_view (take l.index l.items)) l.placed.items);
}
