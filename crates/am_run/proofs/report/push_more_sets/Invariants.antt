use Rattle.std.proofs.Common.{◌≡◌, ◌++◌, string_bytes, codes, take}
use Rattle.std.specs.List.{flat_map}
use Rattle.am_alerts.specs.LabelText.{label_set_text}
use Rattle.am_run.proofs.report.push_more_sets.Given as goal

-- the sets so far were added, with a `,` before each
abbrev pub invariant-loop-item : goal.invariant-loop-item
invariant-loop-item g l =
    string_bytes l.out ≡ string_bytes l.fn.out ++ flat_map (λ i. codes "," ++ label_set_text (g.T.Labelled.labels i)) (take l.item-index l.items)
