use Rattle.std.proofs.Common.{◌≡◌, ◌&&◌, ◌||◌, List, take}
use Rattle.std.specs.List.{list_any}
use Rattle.am_alerts.specs.Labels.{same_label_set}
use Rattle.am_alerts.specs.declared.labels.Label.{Label}
use Rattle.am_model.specs.Insert.{name_in}
use Rattle.am_model.specs.State.{same_name}
use Rattle.am_model.specs.declared.group.GroupName.{GroupName}
use Rattle.am_undelivered.specs.Spans.{held}
use Rattle.am_undelivered.specs.Sets.{is_among}
use Rattle.am_undelivered.proofs.members.add_to_all.Given as goal

-- the groups of the positions so far have it
abbrev pub invariant-loop-position : goal.invariant-loop-position
invariant-loop-position l =
    (name : GroupName) (s : List Label) → is_among s (held l.lists name)
    ≡ (is_among s (held l.fn.lists name) || (same_label_set l.labels s
    && list_any (λ p. same_name name (name_in l.config l.labels p)) (take l.position-index l.positions)))
