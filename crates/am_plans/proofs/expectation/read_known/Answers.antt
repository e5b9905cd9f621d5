use Rattle.std.proofs.Common.{ℕ, List, ap}
use Rattle.std.specs.Prelude.{IsTrue}
use Rattle.serde_json.specs.Data.{Data, Members}
use Rattle.serde_json.specs.Find.{as_object}
use Rattle.serde_json.specs.View.{view}
use Rattle.am_json.proofs.Decoding.{handed_on}
use Rattle.am_json.specs.Read.{has_only}
use Rattle.am_json.specs.declared.reader.Mode.{Mode}
use Rattle.am_model.specs.declared.config.Config.{Config}
use Rattle.am_plans.specs.Configs.{configs_in}
use Rattle.am_plans.proofs.Contents.{are_alike, same_target}
use Rattle.am_plans.proofs.Decodings.{is_there, true_false}
use Rattle.am_plans.specs.Expected.{IsExpectedOf, IsKnownIn, HasNoRegexIn, field_names, has_alerts}
use Rattle.am_terms.specs.declared.expectation.Expectation.{Expectation}
use Rattle.am_terms.specs.declared.rehearsal.TimedAction.{TimedAction}
use Rattle.am_plans.proofs.expectation.read_known.Goals as goal

-- what is never refused
abbrev Decodes : Mode → List Config → ℕ → ℕ → List TimedAction → Data → Expectation → Type 0
Decodes d configs until last plans value x = IsKnownIn d configs until last plans value x × HasNoRegexIn d value

pub returns-in_err-expectation-clause-refused : goal.returns-in_err-expectation-clause-refused
returns-in_err-expectation-clause-refused c =
    handed_on (Decodes c.args.reader.now.mode (configs_in c.args.configs.now) c.args.until c.args.last c.args.plans.now (view c.args.reader.now.value)) c.from_residual.result c.in_err-expectation.field-0.0 c.from_residual.ensures.1
    (λ refusal x decoded. c.in_err-expectation.ensures.refused refusal x (decoded.0.says, decoded.1))

pub returns-in_err-check_target-clause-refused : goal.returns-in_err-check_target-clause-refused
returns-in_err-check_target-clause-refused c =
    let d = c.args.reader.now.mode in
    let value = view c.args.reader.now.value in
    handed_on (Decodes d (configs_in c.args.configs.now) c.args.until c.args.last c.args.plans.now value) c.from_residual-in_err-check_target.result c.in_err-check_target.field-0.0 c.from_residual-in_err-check_target.ensures.1
    (λ refusal x decoded.
    let alike = are_alike d c.args.until c.args.last c.args.plans.now value x c.in_ok-expectation.expectation decoded.1 decoded.0.says c.in_ok-expectation.ensures.decoded in
    true_false (same_target (configs_in c.args.configs.now) x c.in_ok-expectation.expectation alike) decoded.0.target c.in_err-check_target.ensures.refused)

pub returns-in_err-check_content-clause-refused : goal.returns-in_err-check_content-clause-refused
returns-in_err-check_content-clause-refused c =
    let d = c.args.reader.now.mode in
    let value = view c.args.reader.now.value in
    handed_on (Decodes d (configs_in c.args.configs.now) c.args.until c.args.last c.args.plans.now value) c.from_residual-in_err-check_content.result c.in_err-check_content.field-0.0 c.from_residual-in_err-check_content.ensures.1
    (λ refusal x decoded.
    let alike = are_alike d c.args.until c.args.last c.args.plans.now value x c.in_ok-expectation.expectation decoded.1 decoded.0.says c.in_ok-expectation.ensures.decoded in
    let there = is_there (λ (ms : Members). IsExpectedOf d c.args.until c.args.last c.args.plans.now ms x × IsTrue (has_only d field_names ms)) (as_object value) decoded.0.says in
    true_false (ap (has_alerts c.args.last c.args.plans.now) alike.content) decoded.0.alerts (c.in_err-check_content.ensures.refused there refusal))
