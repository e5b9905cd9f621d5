use Rattle.std.proofs.Common.{◌≡◌, take}
use Rattle.serde_json.specs.View.{items_view}
use Rattle.am_json.specs.Decoding.{DecodeEach, IsObject}
use Rattle.am_config.specs.Collects.{Adds, Collects}
use Rattle.am_config.specs.Times.{HasDefinition}
use Rattle.am_config.proofs.definitions.Defined.read_list.Given as goal

-- the definitions so far are those of the items so far, by the same clocks
abbrev pub invariant-loop-index : goal.invariant-loop-index
invariant-loop-index l = record {
  hours : l.self.hours ≡ l.fn.self.hours;
  added : Collects l.fn.faults l.faults
      (Adds l.fn.self.named l.self.named (DecodeEach (IsObject (HasDefinition l.fn.self.hours)) (items_view (take l.index l.items))));
}
