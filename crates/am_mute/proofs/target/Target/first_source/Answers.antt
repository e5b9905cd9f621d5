use Rattle.std.proofs.Common.{◌≡◌, sym, ap, ◌∙◌, arith}
use Rattle.am_alerts.proofs.Finding.{find_here, find_none_more}
use Rattle.am_mute.specs.Inhibit.{is_inhibited_by}
use Rattle.am_mute.specs.Target.{TargetData}
use Rattle.am_mute.proofs.target.Target.first_source.Goals as goal
use Rattle.am_mute.proofs.target.Target.first_source.Goals.{In_ok-is_inhibited_by}

-- what the target reported of the alert
holds_required : (c : In_ok-is_inhibited_by) → is_inhibited_by c.args.self.now.rule c.args.self.now.t c.args.self.now.labels
    c.alert-item.result ≡ c.in_ok-is_inhibited_by.field-0
holds_required c =
    ap (λ (x : TargetData). is_inhibited_by x.rule x.t x.labels c.alert-item.result) (sym c.loop-alert.invariant.1)
    ∙ sym c.in_ok-is_inhibited_by.ensures.value

pub returns-then-branch-clause-value : goal.returns-then-branch-clause-value
returns-then-branch-clause-value c =
    let at = (goal.at.returns-then-branch-clause-value c).In_ok-is_inhibited_by in
    let test = is_inhibited_by c.args.self.now.rule c.args.self.now.t c.args.self.now.labels in
    sym (find_here test _ _ c.alert-item.result c.alert-item.result (omega arith) c.alert-item.is c.loop-alert.invariant.0
    (holds_required at ∙ c.if-branch.true))

pub loop-alert-preserved : goal.loop-alert-preserved
loop-alert-preserved c =
    let at = (goal.at.loop-alert-preserved c).In_ok-is_inhibited_by in
    let test = is_inhibited_by c.args.self.now.rule c.args.self.now.t c.args.self.now.labels in (
      find_none_more test _ _ c.alert-item.result c.alert-item.result (omega arith) c.alert-item.is c.loop-alert.invariant.0
          (holds_required at ∙ c.if-branch.false),
      c.is_inhibited_by.ensures.kept ∙ c.loop-alert.invariant.1,
    )
