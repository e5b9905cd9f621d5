use Rattle.std.proofs.Common.{◌≡◌, List, take, if◌then◌else◌}
use Rattle.std.specs.HashMap.{get}
use Rattle.std.specs.Option.{option_map}
use Rattle.am_alerts.specs.Labels.{same_label_set}
use Rattle.am_alerts.specs.declared.labels.Label.{Label}
use Rattle.am_undelivered.specs.Spans.{flushed}
use Rattle.am_undelivered.specs.Sets.{is_among}
use Rattle.am_undelivered.proofs.watches.flush_all.Given as goal

-- the flush was added to the label sets so far
abbrev pub invariant-loop-labels : goal.invariant-loop-labels
invariant-loop-labels l =
    (s : List Label) → get same_label_set l.spans s
    ≡ (if is_among s (take l.labels-index l.members) then option_map (flushed l.flush s) (get same_label_set l.fn.spans s)
    else get same_label_set l.fn.spans s)
