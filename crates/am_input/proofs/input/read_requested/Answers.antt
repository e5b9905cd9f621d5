use Rattle.std.proofs.Common.{◌≡◌, ℕ, List, Option, Some, codes, subst, sym}
use Rattle.serde_json.specs.Data.{Members}
use Rattle.serde_json.specs.Find.{get_member}
use Rattle.serde_json.specs.View.{members_view}
use Rattle.am_json.proofs.Decoding.{handed_on}
use Rattle.am_json.specs.declared.reader.Mode.{Mode}
use Rattle.am_input.specs.Request.{DecodesToStart, output_for}
use Rattle.am_input.specs.declared.input.Requested.{Requested}
use Rattle.am_input.specs.declared.input.Output.{Output}
use Rattle.am_model.specs.declared.config.Config.{Config}
use Rattle.am_plans.specs.Configs.{configs_of}
use Rattle.am_plans.proofs.Decodings.{none_read}
use Rattle.am_plans.specs.Expected.{AreExpectedIn, HaveNoRegexIn, last_end}
use Rattle.am_terms.specs.declared.rehearsal.TimedAction.{TimedAction}
use Rattle.am_input.proofs.input.read_requested.Goals as goal

-- what is never refused
abbrev Decodes : Mode → Members → Option Output → List Config → ℕ → List TimedAction → Requested → Type 0
Decodes d members output configs until plans requested =
    DecodesToStart (get_member (codes "start") members) requested.start × (output_for output (get_member (codes "output") members) ≡ Some requested.output)
    × AreExpectedIn d configs until (last_end until members) plans (get_member (codes "expect") members) requested.expectations.items
    × HaveNoRegexIn d (get_member (codes "expect") members)

pub returns-in_err-start-clause-refused : goal.returns-in_err-start-clause-refused
returns-in_err-start-clause-refused c =
    let r = c.args.rehearsal.now in
    handed_on (Decodes c.args.top.now.mode (members_view c.args.top.now.members) c.args.output (configs_of r.config c.args.dispatcher_changes.now) r.until r.plans.items) c.from_residual.result c.in_err-start.field-0.0 c.from_residual.ensures.1
    (λ refusal requested decoded. c.in_err-start.ensures.refused refusal requested.start decoded.0)

pub returns-in_err-output-clause-refused : goal.returns-in_err-output-clause-refused
returns-in_err-output-clause-refused c =
    let r = c.args.rehearsal.now in
    handed_on (Decodes c.args.top.now.mode (members_view c.args.top.now.members) c.args.output (configs_of r.config c.args.dispatcher_changes.now) r.until r.plans.items) c.from_residual-in_err-output.result c.in_err-output.field-0.0 c.from_residual-in_err-output.ensures.1
    (λ refusal requested decoded. none_read _ _ (sym c.in_err-output.ensures) decoded.1)

pub returns-in_err-expectations-clause-refused : goal.returns-in_err-expectations-clause-refused
returns-in_err-expectations-clause-refused c =
    let r = c.args.rehearsal.now in
    let d = c.args.top.now.mode in
    let members = members_view c.args.top.now.members in
    handed_on (Decodes d members c.args.output (configs_of r.config c.args.dispatcher_changes.now) r.until r.plans.items) c.from_residual-in_err-expectations.result c.in_err-expectations.field-0.0 c.from_residual-in_err-expectations.ensures.1
    (λ refusal requested decoded. c.in_err-expectations.ensures.refused refusal requested.expectations.items (
      subst (λ (ps : List TimedAction). AreExpectedIn d (configs_of r.config c.args.dispatcher_changes.now) r.until (last_end r.until members) ps (get_member (codes "expect") members) requested.expectations.items)
          (sym c.as_slice-plans.ensures.value) decoded.2,
      decoded.3,
    ))
