use Rattle.std.proofs.Common.{◌∙◌}
use Rattle.am_plans.proofs.Decodings.{is_fault}
use Rattle.am_plans.proofs.Plans.{adds_one}
use Rattle.am_plans.proofs.planned.add.Goals as goal

pub returns-clause-adds : goal.returns-clause-adds
returns-clause-adds c = adds_one c.args.planned.now.items c.push.new.self.items _ c.in_ok-push.ensures.items (c.len-number.ensures ∙ c.args.planned.now.ok.0)

pub returns-in_err-push-clause-starved : goal.returns-in_err-push-clause-starved
returns-in_err-push-clause-starved c = is_fault c.from_residual.result c.from_residual.ensures.1
