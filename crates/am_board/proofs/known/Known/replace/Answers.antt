use Rattle.std.proofs.Common.{ap}
use Rattle.am_alerts.specs.Labels.{same_label_set}
use Rattle.am_alerts.specs.LabelOrder.{same_label_set-decides}
use Rattle.am_board.specs.Known.{KnownAlerts, labels_of}
use Rattle.am_board.proofs.lemmas.insert.InIndex.{keyed_there, values_put_there}
use Rattle.am_board.proofs.known.Known.replace.Goals as goal

pub invariant_of-self : goal.invariant_of-self
invariant_of-self c =
    keyed_there same_label_set labels_of c.args.alert c.self.inside.alerts.entries c.args.self.now.items c.args.i (λ k l. (same_label_set-decides k l).0) c.self.invariant
    (ap (λ (k : KnownAlerts). k.items) c.self.view_is) c.requires.index

pub returns : goal.returns
returns c =
    values_put_there same_label_set labels_of c.args.alert c.self.inside.alerts.entries c.args.self.now.items c.args.i c.self.invariant
    (ap (λ (k : KnownAlerts). k.items) c.self.view_is) c.requires.index
