use Rattle.std.proofs.Common.{codes}
use Rattle.serde_json.specs.Find.{get_member}
use Rattle.serde_json.specs.View.{members_view, view}
use Rattle.am_json.specs.Decoding.{Has}
use Rattle.am_json.proofs.Decoding.{handed_on, missing}
use Rattle.am_protocol.specs.Time.{IsNow}
use Rattle.am_protocol.proofs.Refusing.{there_err, there_ok}
use Rattle.am_protocol.proofs.time.now_at.Goals as goal

pub returns-clause-decoded : goal.returns-clause-decoded
returns-clause-decoded c = there_ok IsNow c.now.result (get_member (codes "now") (members_view c.args.call.now.members)) (view c.in_ok-required.field-0.value) c.in_ok-required.ensures.value c.now.ensures.decoded

pub returns-in_err-required-clause-refused : goal.returns-in_err-required-clause-refused
returns-in_err-required-clause-refused c =
    handed_on (Has IsNow (codes "now") (members_view c.args.call.now.members)) c.from_residual.result c.in_err-required.field-0.0 c.from_residual.ensures.1
    (λ refusal x decoded. missing (λ v. IsNow v x) (get_member (codes "now") (members_view c.args.call.now.members)) c.in_err-required.ensures.value decoded)

pub returns-clause-refused : goal.returns-clause-refused
returns-clause-refused c = there_err IsNow c.now.result (get_member (codes "now") (members_view c.args.call.now.members)) (view c.in_ok-required.field-0.value) c.in_ok-required.ensures.value c.now.ensures.refused
