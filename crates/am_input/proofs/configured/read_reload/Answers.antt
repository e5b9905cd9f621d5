use Rattle.std.proofs.Common.{◌∙◌, Some, subst}
use Rattle.std.specs.Prelude.{IfErr, IsSomeAnd, IsTrue}
use Rattle.serde_json.specs.Find.{as_object}
use Rattle.serde_json.specs.View.{view}
use Rattle.serde_json.specs.declared.value.Value.{Value}
use Rattle.am_json.specs.declared.reader.Mode.{Mode}
use Rattle.am_input.specs.Configured.{DecodesPlainly}
use Rattle.am_input.specs.DispatcherChanges.{is_ours}
use Rattle.am_input.specs.Request.{RefusesAll}
use Rattle.am_model.specs.declared.config.Config.{Config}
use Rattle.am_input.proofs.configured.read_reload.Goals as goal

-- what is given of the value that is read is given of the reload
pub returns-in-None-clause-refused : goal.returns-in-None-clause-refused
returns-in-None-clause-refused g c =
    let Refused = λ (v : Value) (e : Mode). IsTrue (is_ours (Some (view v)))
    → IfErr c.read_at.result (RefusesAll (λ (config : Config). IsSomeAnd (as_object (view v)) (λ fields. DecodesPlainly e fields config))) in
    subst (λ (v : Value). Refused v c.args.top.now.mode) c.member-list.ensures.value
    (subst (λ (e : Mode). Refused c.member-list.result.value e) c.member-list.ensures.mode c.read_at.ensures.refused)

pub returns-in-Some-clause-refused : goal.returns-in-Some-clause-refused
returns-in-Some-clause-refused g c =
    let Refused = λ (v : Value) (e : Mode). IsTrue (is_ours (Some (view v)))
    → IfErr c.read_at-in-Some.result (RefusesAll (λ (config : Config). IsSomeAnd (as_object (view v)) (λ fields. DecodesPlainly e fields config))) in
    subst (λ (v : Value). Refused v c.args.top.now.mode) c.item.ensures.value
    (subst (λ (e : Mode). Refused c.item.result.value e) (c.item.ensures.mode ∙ c.member-list.ensures.mode) c.read_at-in-Some.ensures.refused)
