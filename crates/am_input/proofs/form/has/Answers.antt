use Rattle.std.proofs.Common.{◌∙◌}
use Rattle.serde_json.specs.Find.{get}
use Rattle.serde_json.specs.View.{view}
use Rattle.am_plans.proofs.Decodings.{some_found}
use Rattle.am_input.proofs.form.has.Goals as goal

pub returns : goal.returns
returns c = c.is_some.ensures ∙ some_found (λ v. view v.now) c.get.result (get c.args.name.now (view c.args.value.now)) c.get.ensures
