use Rattle.std.proofs.Common.{◌≡◌, List, drop}
use Rattle.std.specs.HashMap.{get}
use Rattle.am_alerts.specs.Labels.{same_label_set}
use Rattle.am_alerts.specs.declared.labels.Label.{Label}
use Rattle.am_undelivered.specs.Spans.{AreBefore, after_facts, facts_of, sets_after, sets_in, spans_in}
use Rattle.am_undelivered.proofs.watches.Watches.of.Given as goal

-- what was added, and what happens under the other dispatchers, is the whole
abbrev pub invariant-loop-part : goal.invariant-loop-part
invariant-loop-part l = record {
  spans : (labels : List Label)
      → after_facts labels (facts_of l.part (drop l.part l.playbacks)) (get same_label_set l.watches.spans labels) ≡ spans_in l.playbacks labels;
  sets : sets_after (facts_of l.part (drop l.part l.playbacks)) l.watches.sets ≡ sets_in l.playbacks;
  before : AreBefore l.part (get same_label_set l.watches.spans);
}
