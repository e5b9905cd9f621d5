use Rattle.std.proofs.Common.{codes, ◌∙◌}
use Rattle.serde_json.specs.Find.{pointer}
use Rattle.serde_json.specs.View.{view}
use Rattle.am_plans.proofs.Decodings.{some_found}
use Rattle.am_input.proofs.form.has_integrations.Goals as goal

pub returns : goal.returns
returns c =
    c.is_some.ensures ∙ some_found (λ v. view v.now) c.pointer.result (pointer (codes "/receivers/0/integrations") (view c.args.value.now)) c.pointer.ensures
