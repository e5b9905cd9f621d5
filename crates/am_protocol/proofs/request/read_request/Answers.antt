use Rattle.std.proofs.Common.{◌∙◌, Err, ap, sym}
use Rattle.serde_json.specs.View.{members_view, view}
use Rattle.am_json.proofs.Decoding.{handed_on}
use Rattle.am_protocol.specs.Request.{IsSureRequestIn}
use Rattle.am_protocol.specs.declared.request.Request.{Request}
use Rattle.am_protocol.proofs.Forms.{asked_err, asked_ok, asks_known, asks_nothing, asks_one, count_form, known_form, no_object_form, one_object, unknown_form}
use Rattle.am_protocol.proofs.request.read_request.Goals as goal

pub returns-in_err-line-clause-form : goal.returns-in_err-line-clause-form
returns-in_err-line-clause-form c =
    no_object_form c.from_residual.result c.in_err-line.field-0.0 (view c.args.reader.now.value) c.in_err-line.ensures.members c.from_residual.ensures.1 c.in_err-line.ensures.refused

pub returns-in_err-line-clause-refused : goal.returns-in_err-line-clause-refused
returns-in_err-line-clause-refused c =
    handed_on (IsSureRequestIn c.args.reader.now.mode (view c.args.reader.now.value)) c.from_residual.result c.in_err-line.field-0.0 c.from_residual.ensures.1
    (λ refusal asked is. asks_nothing c.args.reader.now.mode (view c.args.reader.now.value) asked c.in_err-line.ensures.members is)

pub returns-in_err-name-clause-form : goal.returns-in_err-name-clause-form
returns-in_err-name-clause-form c =
    count_form c.from_residual-in_err-name.result c.in_err-name.field-0.0 (view c.args.reader.now.value) (members_view c.in_ok-line.line.members) c.in_ok-line.ensures.members
    c.from_residual-in_err-name.ensures.1 c.in_err-name.ensures.refused

pub returns-in_err-name-clause-refused : goal.returns-in_err-name-clause-refused
returns-in_err-name-clause-refused c =
    handed_on (IsSureRequestIn c.args.reader.now.mode (view c.args.reader.now.value)) c.from_residual-in_err-name.result c.in_err-name.field-0.0 c.from_residual-in_err-name.ensures.1
    (λ refusal asked is. asks_one c.args.reader.now.mode (view c.args.reader.now.value) (members_view c.in_ok-line.line.members) c.in_err-name.field-0.0 asked c.in_ok-line.ensures.members c.in_err-name.ensures.refused is)

pub returns-in_default-clause-form : goal.returns-in_default-clause-form
returns-in_default-clause-form c =
    unknown_form {T = Request} (Err c.refuse_at.result) (view c.args.reader.now.value) c.in_ok-name.name.now (view c.in_ok-name.value.now) (one_object (view c.args.reader.now.value) (members_view c.in_ok-line.line.members) c.in_ok-name.name.now (view c.in_ok-name.value.now) c.in_ok-line.ensures.members c.in_ok-name.ensures.one)
    (sym c.in_default.is ∙ c.call_named.ensures) c.refuse_at.ensures

pub returns-in_default-clause-refused : goal.returns-in_default-clause-refused
returns-in_default-clause-refused c refusal asked is =
    asks_known c.args.reader.now.mode (view c.args.reader.now.value) c.in_ok-name.name.now (view c.in_ok-name.value.now) asked (one_object (view c.args.reader.now.value) (members_view c.in_ok-line.line.members) c.in_ok-name.name.now (view c.in_ok-name.value.now) c.in_ok-line.ensures.members c.in_ok-name.ensures.one) (sym c.in_default.is ∙ c.call_named.ensures) is

pub returns-clause-form : goal.returns-clause-form
returns-clause-form c = known_form c.read_call.result (view c.args.reader.now.value) c.in_ok-name.name.now (view c.in_ok-name.value.now) c.in-Some.call (one_object (view c.args.reader.now.value) (members_view c.in_ok-line.line.members) c.in_ok-name.name.now (view c.in_ok-name.value.now) c.in_ok-line.ensures.members c.in_ok-name.ensures.one) c.in-Some.ensures

pub returns-clause-requested : goal.returns-clause-requested
returns-clause-requested c =
    asked_ok c.read_call.result c.args.reader.now.mode c.member-2.result.mode (view c.args.reader.now.value) c.in_ok-name.name.now (view c.in_ok-name.value.now) (view c.member-2.result.value) c.in-Some.call (one_object (view c.args.reader.now.value) (members_view c.in_ok-line.line.members) c.in_ok-name.name.now (view c.in_ok-name.value.now) c.in_ok-line.ensures.members c.in_ok-name.ensures.one) c.in-Some.ensures
    (c.member-2.ensures.mode ∙ c.in_ok-line.ensures.mode) (ap view c.member-2.ensures.value) c.read_call.ensures.requested

pub returns-clause-refused : goal.returns-clause-refused
returns-clause-refused c =
    asked_err c.read_call.result c.args.reader.now.mode c.member-2.result.mode (view c.args.reader.now.value) c.in_ok-name.name.now (view c.in_ok-name.value.now) (view c.member-2.result.value) c.in-Some.call (one_object (view c.args.reader.now.value) (members_view c.in_ok-line.line.members) c.in_ok-name.name.now (view c.in_ok-name.value.now) c.in_ok-line.ensures.members c.in_ok-name.ensures.one) c.in-Some.ensures
    (c.member-2.ensures.mode ∙ c.in_ok-line.ensures.mode) (ap view c.member-2.ensures.value) c.read_call.ensures.refused
