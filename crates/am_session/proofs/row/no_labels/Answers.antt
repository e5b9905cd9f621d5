use Rattle.std.proofs.Common.{ap, arith, option_copied}
use Rattle.am_session.proofs.Rows.{no_labels_there}
use Rattle.am_session.proofs.row.no_labels.Goals as goal

pub returns : goal.returns
returns c =
    no_labels_there c.args.routes.now c.args.route (option_copied c.args.alert) c.in-Some.alert.now c.in_ok-labels.labels (ap option_copied c.in-Some.is)
    c.in_ok-labels.ensures (omega arith)
