use Rattle.std.proofs.Common.{◌≡◌, take}
use Rattle.serde_json.specs.View.{items_view}
use Rattle.am_json.specs.Decoding.{DecodeEach}
use Rattle.am_config.specs.Collects.{Collects}
use Rattle.am_config.specs.Times.{IsIndexOf}
use Rattle.am_config.proofs.times.Times.read_names.Given as goal

-- the indexes so far are those of the items so far
abbrev pub invariant-loop-index : goal.invariant-loop-index
invariant-loop-index l = record {
  times : l.self ≡ l.fn.self;
  names : Collects l.fn.faults l.faults (DecodeEach (IsIndexOf l.fn.self.named) (items_view (take l.index l.items)) l.indexes.items);
}
