use Rattle.std.proofs.Common.{◌≡◌, List, drop}
use Rattle.std.specs.HashMap.{get}
use Rattle.am_alerts.specs.Labels.{same_label_set}
use Rattle.am_alerts.specs.declared.labels.Label.{Label}
use Rattle.am_undelivered.specs.Spans.{AreKnown, after_facts, facts_from, facts_in, sets_after}
use Rattle.am_undelivered.proofs.watches.Watches.add_part.Given as goal

-- what was added, and what happens from the next record on, is the whole
abbrev pub invariant-loop-index : goal.invariant-loop-index
invariant-loop-index l = record {
  spans : (labels : List Label)
      → after_facts labels (facts_from l.part l.playback l.begin l.index (drop l.index l.history)) (get same_label_set l.self.spans labels)
      ≡ after_facts labels (facts_in l.part l.playback) (get same_label_set l.fn.self.spans labels);
  sets : sets_after (facts_from l.part l.playback l.begin l.index (drop l.index l.history)) l.self.sets
      ≡ sets_after (facts_in l.part l.playback) l.fn.self.sets;
  part : l.members.part ≡ l.part;
  config : l.members.config ≡ l.playback.config;
  known : AreKnown l.members (get same_label_set l.self.spans);
}
