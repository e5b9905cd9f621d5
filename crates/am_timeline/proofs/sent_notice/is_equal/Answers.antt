use Rattle.std.proofs.Common.{◌∙◌, sym, ap}
use Rattle.std.specs.Ordering.{is_eq}
use Rattle.am_timeline.specs.Comparison.{notice_of}
use Rattle.am_timeline.proofs.Comparisons.{ties_are_equal}
use Rattle.am_timeline.proofs.sent_notice.is_equal.Goals as goal

pub returns : goal.returns
returns c =
    let ties = ties_are_equal (notice_of c.args.one.now) (notice_of c.args.other.now) in
    let is = c.is_eq.ensures ∙ ap is_eq c.by_content.ensures in
    (λ h. ties.0 (sym is ∙ h), λ e. is ∙ ties.1 e)
