use Rattle.std.proofs.Common.{List}
use Rattle.serde_json.specs.Find.{get_member}
use Rattle.serde_json.specs.View.{members_view, view}
use Rattle.am_alerts.specs.declared.labels.Label.{Label}
use Rattle.am_json.specs.Configured.{DecodesToLabels}
use Rattle.am_json.specs.Decoding.{Has, IsList}
use Rattle.am_json.proofs.Decoding.{all_sure, as_listed, handed_on, listed_in, missing}
use Rattle.am_protocol.proofs.request.label_sets.Goals as goal

pub returns-clause-decoded : goal.returns-clause-decoded
returns-clause-decoded c =
    let members = members_view c.args.row.now.members in
    as_listed DecodesToLabels c.args.row.now.mode c.in_ok-required.field-0.mode (view c.in_ok-required.field-0.value) (get_member c.args.name.now members) c.in_ok-sets.sets.items
    c.in_ok-required.ensures.value c.in_ok-required.ensures.mode c.in_ok-sets.ensures.decoded

pub returns-in_err-required-clause-refused : goal.returns-in_err-required-clause-refused
returns-in_err-required-clause-refused c =
    let members = members_view c.args.row.now.members in
    let Decodes = λ (x : List (List Label)). Has (IsList (DecodesToLabels c.args.row.now.mode)) c.args.name.now members x in
    handed_on Decodes c.from_residual.result c.in_err-required.field-0.0 c.from_residual.ensures.1
    (λ refusal x decoded. missing (λ v. IsList (DecodesToLabels c.args.row.now.mode) v x) (get_member c.args.name.now members) c.in_err-required.ensures.value decoded)

pub returns-in_err-sets-clause-refused : goal.returns-in_err-sets-clause-refused
returns-in_err-sets-clause-refused c =
    let members = members_view c.args.row.now.members in
    let Decodes = λ (x : List (List Label)). Has (IsList (DecodesToLabels c.args.row.now.mode)) c.args.name.now members x in
    handed_on Decodes c.from_residual-in_err-sets.result c.in_err-sets.field-0.0 c.from_residual-in_err-sets.ensures.1
    (λ refusal x decoded. c.in_err-sets.ensures.refused refusal x (
      listed_in DecodesToLabels c.args.row.now.mode c.in_ok-required.field-0.mode (view c.in_ok-required.field-0.value) (get_member c.args.name.now members) x
          c.in_ok-required.ensures.value c.in_ok-required.ensures.mode decoded,
      all_sure x,
    ))
