use Rattle.std.proofs.Common.{◌≡◌, ap, subst, sym, ◌∙◌}
use Rattle.serde_json.specs.Find.{as_object}
use Rattle.serde_json.specs.View.{members_view, view}
use Rattle.am_alerts.specs.declared.route.Route.{Route}
use Rattle.am_json.specs.Configured.{DecodesToOptions, DecodesToRoot, HasRoot}
use Rattle.am_json.specs.Routed.{routed}
use Rattle.am_json.proofs.Decoding.{as_decoded, handed_on, in_object, missing, starved, unknown}
use Rattle.am_json.proofs.route.read_root.Goals as goal

pub returns-clause-decoded : goal.returns-clause-decoded
returns-clause-decoded c =
    let o = c.in_ok-root.root in
    let members = members_view o.members in
    let route : c.named.result ≡ routed c.in_ok-new.field-0 c.in_ok-options.options = c.named.ensures in
    let has : HasRoot o.mode members c.named.result = record {
      only = sym c.in_ok-only.ensures.known;
      options = subst (λ (r : Route). DecodesToOptions members r) (sym route) (c.in_ok-options.ensures.decoded c.in_ok-new.field-0);
      name = ap (λ (r : Route). r.name) route ∙ c.in_ok-new.ensures;
    } in
    as_decoded HasRoot c.args.reader.now.mode o.mode members (view c.args.reader.now.value) c.named.result c.in_ok-root.ensures.members
    c.in_ok-root.ensures.mode has

pub returns-in_err-root-clause-refused : goal.returns-in_err-root-clause-refused
returns-in_err-root-clause-refused c =
    handed_on (DecodesToRoot c.args.reader.now.mode (view c.args.reader.now.value)) c.from_residual.result c.in_err-root.field-0.0 c.from_residual.ensures.1
    (λ refusal x decoded. missing (λ ms. HasRoot c.args.reader.now.mode ms x) (as_object (view c.args.reader.now.value)) c.in_err-root.ensures.members decoded)

pub returns-in_err-only-clause-refused : goal.returns-in_err-only-clause-refused
returns-in_err-only-clause-refused c =
    handed_on (DecodesToRoot c.args.reader.now.mode (view c.args.reader.now.value)) c.from_residual-in_err-only.result c.in_err-only.field-0.0 c.from_residual-in_err-only.ensures.1
    (λ refusal x decoded. unknown _ c.in_err-only.ensures.known (in_object HasRoot c.args.reader.now.mode c.in_ok-root.root.mode (members_view c.in_ok-root.root.members) (view c.args.reader.now.value) x c.in_ok-root.ensures.members c.in_ok-root.ensures.mode decoded).only)

pub returns-in_err-options-clause-refused : goal.returns-in_err-options-clause-refused
returns-in_err-options-clause-refused c =
    handed_on (DecodesToRoot c.args.reader.now.mode (view c.args.reader.now.value)) c.from_residual-in_err-options.result c.in_err-options.field-0.0 c.from_residual-in_err-options.ensures.1
    (λ refusal x decoded. c.in_err-options.ensures.refused refusal x (in_object HasRoot c.args.reader.now.mode c.in_ok-root.root.mode (members_view c.in_ok-root.root.members) (view c.args.reader.now.value) x c.in_ok-root.ensures.members c.in_ok-root.ensures.mode decoded).options)

pub returns-in_err-new-clause-refused : goal.returns-in_err-new-clause-refused
returns-in_err-new-clause-refused c = starved (DecodesToRoot c.args.reader.now.mode (view c.args.reader.now.value)) c.from_residual-in_err-new.result c.from_residual-in_err-new.ensures.1
