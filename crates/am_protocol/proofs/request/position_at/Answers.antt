use Rattle.std.proofs.Common.{codes, refl}
use Rattle.serde_json.specs.Find.{get_member}
use Rattle.serde_json.specs.View.{members_view, view}
use Rattle.am_json.specs.Decoding.{Has}
use Rattle.am_json.specs.Read.{number_in}
use Rattle.am_json.proofs.Decoding.{decoded_by, found, handed_on, missing}
use Rattle.am_protocol.specs.Request.{IsPosition}
use Rattle.am_protocol.proofs.Refusing.{no_position}
use Rattle.am_protocol.proofs.request.position_at.Goals as goal

pub returns-clause-decoded : goal.returns-clause-decoded
returns-clause-decoded c =
    decoded_by IsPosition (get_member (codes "integration") (members_view c.args.call.now.members)) (view c.in_ok-required.field-0.value) c.in_ok-number_up_to.field-0
    c.in_ok-required.ensures.value (c.in_ok-number_up_to.ensures.number, c.in_ok-number_up_to.ensures.bound)

pub returns-in_err-required-clause-refused : goal.returns-in_err-required-clause-refused
returns-in_err-required-clause-refused c =
    handed_on (Has IsPosition (codes "integration") (members_view c.args.call.now.members)) c.from_residual.result c.in_err-required.field-0.0 c.from_residual.ensures.1
    (λ refusal x decoded. missing (λ v. IsPosition v x) (get_member (codes "integration") (members_view c.args.call.now.members)) c.in_err-required.ensures.value decoded)

pub returns-in_err-number_up_to-clause-refused : goal.returns-in_err-number_up_to-clause-refused
returns-in_err-number_up_to-clause-refused c =
    let value = view c.in_ok-required.field-0.value in
    handed_on (Has IsPosition (codes "integration") (members_view c.args.call.now.members)) c.from_residual-in_err-number_up_to.result c.in_err-number_up_to.field-0.0
    c.from_residual-in_err-number_up_to.ensures.1
    (λ refusal x decoded. no_position value (number_in value) 4294967295 x c.in_err-number_up_to.field-0.0 refl refl c.in_err-number_up_to.ensures.refused
    (found ⊥ (λ v. IsPosition v x) value (get_member (codes "integration") (members_view c.args.call.now.members)) c.in_ok-required.ensures.value decoded))
