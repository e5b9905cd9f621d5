use Rattle.std.proofs.Common.{◌∙◌, ap}
use Rattle.std.proofs.lemmas.Result.{IfOk-weaker}
use Rattle.am_patterns.specs.Simple.{is_simple}
use Rattle.am_patterns.proofs.Grouped.{grouped_not_simple}
use Rattle.am_patterns.proofs.pattern.not_simple.Goals as goal

pub returns-clause-written : goal.returns-clause-written
returns-clause-written c =
    IfOk-weaker c.grouped.result _ _ (λ text is. ap is_simple is ∙ grouped_not_simple c.args.pattern.now) c.grouped.ensures
