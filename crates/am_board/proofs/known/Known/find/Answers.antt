use Rattle.std.proofs.Common.{ap, ◌∙◌}
use Rattle.std.specs.List.{position}
use Rattle.am_alerts.specs.AlertData.{AlertData}
use Rattle.am_alerts.specs.Labels.{same_label_set}
use Rattle.am_board.specs.Known.{KnownAlerts, labels_of}
use Rattle.am_board.proofs.lemmas.invariant.Keyed.{index_of-keys}
use Rattle.am_board.proofs.known.Known.find.Goals as goal

pub returns-clause-index : goal.returns-clause-index
returns-clause-index c =
    c.get_index_of.ensures.index
    ∙ index_of-keys same_label_set labels_of c.args.labels.now c.self.inside.alerts.entries c.self.invariant
    ∙ ap (λ (k : KnownAlerts). position (λ (a : AlertData). same_label_set c.args.labels.now a.labels) k.items) c.self.view_is
