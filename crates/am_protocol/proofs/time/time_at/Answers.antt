use Rattle.serde_json.specs.Find.{get_member}
use Rattle.serde_json.specs.View.{members_view, view}
use Rattle.am_json.specs.Decoding.{Has}
use Rattle.am_json.proofs.Decoding.{handed_on, missing}
use Rattle.am_protocol.specs.Time.{IsTime, time_in}
use Rattle.am_protocol.proofs.Refusing.{read_err, read_ok, there_err, there_ok}
use Rattle.am_protocol.proofs.time.time_at.Goals as goal

pub returns-clause-decoded : goal.returns-clause-decoded
returns-clause-decoded c = there_ok IsTime c.time.result (get_member c.args.name.now (members_view c.args.object.now.members)) (view c.in_ok-required.field-0.value) c.in_ok-required.ensures.value (read_ok time_in c.time.result (view c.in_ok-required.field-0.value) c.time.ensures)

pub returns-in_err-required-clause-refused : goal.returns-in_err-required-clause-refused
returns-in_err-required-clause-refused c =
    handed_on (Has IsTime c.args.name.now (members_view c.args.object.now.members)) c.from_residual.result c.in_err-required.field-0.0 c.from_residual.ensures.1
    (λ refusal x decoded. missing (λ v. IsTime v x) (get_member c.args.name.now (members_view c.args.object.now.members)) c.in_err-required.ensures.value decoded)

pub returns-clause-refused : goal.returns-clause-refused
returns-clause-refused c = there_err IsTime c.time.result (get_member c.args.name.now (members_view c.args.object.now.members)) (view c.in_ok-required.field-0.value) c.in_ok-required.ensures.value (read_err time_in c.time.result (view c.in_ok-required.field-0.value) c.time.ensures)
