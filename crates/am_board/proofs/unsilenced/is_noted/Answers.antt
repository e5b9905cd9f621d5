use Rattle.std.proofs.Common.{◌≡◌, List, get_or, sym, ◌∙◌, subst}
use Rattle.am_alerts.specs.LabelOrder.{same_label_set-decides}
use Rattle.am_alerts.specs.declared.labels.Label.{Label}
use Rattle.am_board.proofs.unsilenced.is_noted.Goals as goal

pub returns-then-index-sets : goal.returns-then-index-sets
returns-then-index-sets c returned =
    let same = (same_label_set-decides c.index-sets-index.result c.args.labels.now).0 (sym c.eq.ensures ∙ returned) in
    (c.if-index-sets.true, subst (λ (x : List Label). x ≡ get_or c.args.sets.now c.args.index x) same c.index-sets-index.is)
