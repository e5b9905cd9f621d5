use Rattle.am_alerts.specs.LabelOrder.{label_set_cmp_total, label_set_cmp-equal, same_label_set-decides, label_set_cmp-prefix}
use Rattle.am_alerts.proofs.labels.label_sets_are_ordered.Goals as goal

pub returns : goal.returns
returns c = record {
  order = label_set_cmp_total;
  ties = label_set_cmp-equal;
  equality = same_label_set-decides;
  prefix = label_set_cmp-prefix;
}
