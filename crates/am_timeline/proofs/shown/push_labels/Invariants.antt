use Rattle.std.proofs.Common.{◌≡◌, ◌++◌, string_bytes, codes, take}
use Rattle.std.specs.List.{join_by}
use Rattle.am_timeline.specs.Shown.{label_shown}
use Rattle.am_timeline.proofs.shown.push_labels.Given as goal

-- the labels so far were added, with a `,` between them
abbrev pub invariant-loop-i : goal.invariant-loop-i
invariant-loop-i l = string_bytes l.out ≡ string_bytes l.fn.out ++ join_by label_shown (codes ",") (take l.i l.labels)
