use Rattle.std.specs.Prelude.{IsTrue}
use Rattle.serde_json.specs.Find.{get_member}
use Rattle.serde_json.specs.View.{members_view, view}
use Rattle.am_json.specs.Decoding.{Has}
use Rattle.am_json.proofs.Decoding.{as_decoded_in, decoded_in, handed_on, missing}
use Rattle.am_protocol.proofs.request.member.Goals as goal

pub returns-clause-decoded : goal.returns-clause-decoded
returns-clause-decoded g c =
    as_decoded_in g.T.FromJson.decodes_to c.args.line.now.mode c.in_ok-required.field-0.mode (view c.in_ok-required.field-0.value)
    (get_member c.args.name.now (members_view c.args.line.now.members)) c.in_ok-value.value
    c.in_ok-required.ensures.value c.in_ok-required.ensures.mode c.in_ok-value.ensures.decoded

pub returns-in_err-required-clause-refused : goal.returns-in_err-required-clause-refused
returns-in_err-required-clause-refused g c =
    let members = members_view c.args.line.now.members in
    let Decodes = λ (x : g.row.T.Denot). Has (g.T.FromJson.decodes_to c.args.line.now.mode) c.args.name.now members x × IsTrue (g.T.FromJson.never_refused x) in
    handed_on Decodes c.from_residual.result c.in_err-required.field-0.0 c.from_residual.ensures.1
    (λ refusal x decoded. missing (λ v. g.T.FromJson.decodes_to c.args.line.now.mode v x) (get_member c.args.name.now members) c.in_err-required.ensures.value decoded.0)

pub returns-in_err-value-clause-refused : goal.returns-in_err-value-clause-refused
returns-in_err-value-clause-refused g c =
    let members = members_view c.args.line.now.members in
    let Decodes = λ (x : g.row.T.Denot). Has (g.T.FromJson.decodes_to c.args.line.now.mode) c.args.name.now members x × IsTrue (g.T.FromJson.never_refused x) in
    handed_on Decodes c.from_residual-in_err-value.result c.in_err-value.field-0.0 c.from_residual-in_err-value.ensures.1
    (λ refusal x decoded. c.in_err-value.ensures.refused refusal x (
      decoded_in g.T.FromJson.decodes_to c.args.line.now.mode c.in_ok-required.field-0.mode (view c.in_ok-required.field-0.value) (get_member c.args.name.now members) x
          c.in_ok-required.ensures.value c.in_ok-required.ensures.mode decoded.0,
      decoded.1,
    ))
