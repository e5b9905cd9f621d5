use Rattle.std.proofs.Common.{sym, true}
use Rattle.std.specs.Prelude.{IsTrue}
use Rattle.serde_json.specs.Data.{Data}
use Rattle.serde_json.specs.Find.{as_object}
use Rattle.serde_json.specs.View.{members_view, view}
use Rattle.am_json.proofs.Decoding.{as_decoded, handed_on, in_object, missing, sure, unknown}
use Rattle.am_json.specs.declared.reader.Mode.{Mode}
use Rattle.am_protocol.specs.Request.{DecodesToGroup, HasGroup}
use Rattle.am_protocol.specs.declared.request.NamedGroup.{NamedGroup}
use Rattle.am_protocol.proofs.request.NamedGroupFromJson.read.Goals as goal

-- what is never refused
abbrev Decodes : Mode → Data → NamedGroup → Type 0
Decodes mode value x = DecodesToGroup mode value x × IsTrue true

pub returns-clause-decoded : goal.returns-clause-decoded
returns-clause-decoded c =
    let o = c.in_ok-group.group in
    let members = members_view o.members in
    let x : NamedGroup = record { route = c.in_ok-route.route; labels = c.in_ok-labels.labels } in
    let has : HasGroup o.mode members x = record {
      only = sym c.in_ok-only.ensures.known;
      route = c.in_ok-route.ensures.decoded;
      labels = c.in_ok-labels.ensures.decoded;
    } in
    as_decoded HasGroup c.args.reader.now.mode o.mode members (view c.args.reader.now.value) x c.in_ok-group.ensures.members c.in_ok-group.ensures.mode has

pub returns-in_err-group-clause-refused : goal.returns-in_err-group-clause-refused
returns-in_err-group-clause-refused c =
    handed_on (Decodes c.args.reader.now.mode (view c.args.reader.now.value)) c.from_residual.result c.in_err-group.field-0.0 c.from_residual.ensures.1
    (λ refusal x decoded. missing (λ ms. HasGroup c.args.reader.now.mode ms x) (as_object (view c.args.reader.now.value)) c.in_err-group.ensures.members decoded.0)

pub returns-in_err-only-clause-refused : goal.returns-in_err-only-clause-refused
returns-in_err-only-clause-refused c =
    handed_on (Decodes c.args.reader.now.mode (view c.args.reader.now.value)) c.from_residual-in_err-only.result c.in_err-only.field-0.0 c.from_residual-in_err-only.ensures.1
    (λ refusal x decoded. unknown _ c.in_err-only.ensures.known (in_object HasGroup c.args.reader.now.mode c.in_ok-group.group.mode (members_view c.in_ok-group.group.members) (view c.args.reader.now.value) x c.in_ok-group.ensures.members c.in_ok-group.ensures.mode decoded.0).only)

pub returns-in_err-route-clause-refused : goal.returns-in_err-route-clause-refused
returns-in_err-route-clause-refused c =
    handed_on (Decodes c.args.reader.now.mode (view c.args.reader.now.value)) c.from_residual-in_err-route.result c.in_err-route.field-0.0 c.from_residual-in_err-route.ensures.1
    (λ refusal x decoded. c.in_err-route.ensures.refused refusal x.route ((in_object HasGroup c.args.reader.now.mode c.in_ok-group.group.mode (members_view c.in_ok-group.group.members) (view c.args.reader.now.value) x c.in_ok-group.ensures.members c.in_ok-group.ensures.mode decoded.0).route, sure))

pub returns-in_err-labels-clause-refused : goal.returns-in_err-labels-clause-refused
returns-in_err-labels-clause-refused c =
    handed_on (Decodes c.args.reader.now.mode (view c.args.reader.now.value)) c.from_residual-in_err-labels.result c.in_err-labels.field-0.0 c.from_residual-in_err-labels.ensures.1
    (λ refusal x decoded. c.in_err-labels.ensures.refused refusal x.labels (in_object HasGroup c.args.reader.now.mode c.in_ok-group.group.mode (members_view c.in_ok-group.group.members) (view c.args.reader.now.value) x c.in_ok-group.ensures.members c.in_ok-group.ensures.mode decoded.0).labels)
