use Rattle.std.proofs.Common.{◌∙◌, List, true, cond, ap}
use Rattle.std.specs.HashSet.{contains}
use Rattle.am_alerts.specs.declared.labels.Label.{Label}
use Rattle.am_model.specs.Insert.{name_in}
use Rattle.am_model.specs.State.{same_name}
use Rattle.am_timeline.proofs.Filters.{contains-added}
use Rattle.am_timeline.proofs.filtered.add_group.Goals as goal

pub returns : goal.returns
returns c =
    λ name.
    let there = contains same_name c.args.groups.now name in
    c.in_ok-insert.ensures.updates.0 name
    ∙ ap (λ (g : List Label). cond (same_name (record { route = c.args.position; labels = g }) name) true there) c.in_ok-group_labels.ensures
    ∙ contains-added name (name_in c.args.config.now c.args.labels.now c.args.position) there
