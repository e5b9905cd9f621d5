use Rattle.std.proofs.Common.{◌∙◌, sym}
use Rattle.am_alerts.specs.LabelOrder.{same_label_set-decides}
use Rattle.am_terms.proofs.like.is_same_set.Goals as goal

pub returns : goal.returns
returns c =
    let same = same_label_set-decides _ _ in
    (λ h. same.0 (sym c.eq.ensures ∙ h), λ e. c.eq.ensures ∙ same.1 e)
