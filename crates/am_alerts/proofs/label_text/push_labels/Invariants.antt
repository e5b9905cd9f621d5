use Rattle.std.proofs.Common.{◌≡◌, ◌++◌, string_bytes, codes, take}
use Rattle.std.specs.List.{join_by}
use Rattle.am_alerts.specs.LabelText.{label_text, BeginsWith}
use Rattle.am_alerts.proofs.label_text.push_labels.Given as goal

abbrev pub invariant-loop-i : goal.invariant-loop-i
invariant-loop-i l = record {
  text : string_bytes l.out ≡ string_bytes l.initial.out ++ join_by label_text (codes ",") (take l.i l.labels);
  begins : BeginsWith (string_bytes l.out) (string_bytes l.initial.out);
}
