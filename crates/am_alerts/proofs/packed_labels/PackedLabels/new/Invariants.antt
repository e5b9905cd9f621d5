use Rattle.std.proofs.Common.{◌*◌, ◌≤◌, length, string_bytes, take}
use Rattle.am_alerts.specs.Labels.{labels_in}
use Rattle.am_alerts.proofs.Packing.{IsRun}
use Rattle.am_alerts.proofs.packed_labels.PackedLabels.new.Given as goal

-- the run is that of the pairs so far, and isn't long
abbrev pub invariant-loop-pair : goal.invariant-loop-pair
invariant-loop-pair l = record {
  run : IsRun (string_bytes l.run) l.cuts.items l.is_marked (labels_in (take l.pair-index l.pairs));
  short : length (string_bytes l.run) ≤ 17410 * l.pair-index;
}
