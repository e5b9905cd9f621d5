use Rattle.std.proofs.Common.{arith}
use Rattle.std.proofs.lemmas.Grind.{common_steps}
use Rattle.am_alerts.proofs.Names.{is_label_name-begun}
use Rattle.am_alerts.proofs.labels.is_label_name.Goals as goal

pub returns-then-begins_name : goal.returns-then-begins_name
returns-then-begins_name c = grind (arith, common_steps, is_label_name-begun)
