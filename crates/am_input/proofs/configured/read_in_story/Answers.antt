use Rattle.std.proofs.Common.{codes}
use Rattle.serde_json.specs.Find.{get_member}
use Rattle.serde_json.specs.View.{members_view, view}
use Rattle.am_json.proofs.Decoding.{missing, decoded_in}
use Rattle.am_json.specs.Configured.{DecodesToConfig}
use Rattle.am_input.proofs.Refusals.{one_on}
use Rattle.am_input.specs.Configured.{DecodesPlainly}
use Rattle.am_input.proofs.configured.read_in_story.Goals as goal

pub returns-in_err-required-clause-refused : goal.returns-in_err-required-clause-refused
returns-in_err-required-clause-refused c ours =
    let d = c.args.top.now.mode in
    let members = members_view c.args.top.now.members in
    one_on (DecodesPlainly d members) c.from_residual.result c.in_err-required.field-0.0 c.from_residual.ensures.1
    (λ refusal config decoded. missing (λ v. DecodesToConfig d v config) (get_member (codes "config") members) c.in_err-required.ensures.value decoded.0)

pub returns-in_err-read_own-clause-refused : goal.returns-in_err-read_own-clause-refused
returns-in_err-read_own-clause-refused c ours =
    let d = c.args.top.now.mode in
    let members = members_view c.args.top.now.members in
    let own = c.in_ok-required.field-0 in
    one_on (DecodesPlainly d members) c.from_residual-in_err-read_own.result c.in_err-read_own.field-0.0 c.from_residual-in_err-read_own.ensures.1
    (λ refusal config decoded. c.in_err-read_own.ensures.refused refusal config
    (decoded_in DecodesToConfig d own.mode (view own.value) (get_member (codes "config") members) config c.in_ok-required.ensures.value c.in_ok-required.ensures.mode decoded.0, decoded.1))
