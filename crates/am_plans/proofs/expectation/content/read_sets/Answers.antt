use Rattle.std.proofs.Common.{List, Option, Some, None, subst, sym}
use Rattle.serde_json.specs.Data.{Data}
use Rattle.serde_json.specs.Find.{get_member}
use Rattle.serde_json.specs.View.{members_view, view}
use Rattle.am_alerts.specs.declared.labels.Label.{Label}
use Rattle.am_json.proofs.Decoding.{all_sure, handed_on}
use Rattle.am_json.specs.Configured.{DecodesToLabels}
use Rattle.am_json.specs.Decoding.{IsList}
use Rattle.am_json.specs.declared.reader.Mode.{Mode}
use Rattle.am_plans.specs.Expected.{AreSetsIn}
use Rattle.am_plans.proofs.expectation.content.read_sets.Goals as goal

sets_of : (mode : Mode) (value : Data) (sets : Option (List (List Label))) → AreSetsIn mode (Some value) sets
    → (s : List (List Label)) × IsList (DecodesToLabels mode) value s
sets_of mode value None decoded = absurd decoded
sets_of mode value (Some s) decoded = (s, decoded)

pub returns-in_err-list-in-Some-clause-refused : goal.returns-in_err-list-in-Some-clause-refused
returns-in_err-list-in-Some-clause-refused c =
    let d = c.args.item.now.mode in
    let value = view c.in-Some.member.value in
    let found = get_member c.args.name.now (members_view c.args.item.now.members) in
    handed_on (AreSetsIn d found) c.from_residual.result c.in_err-list-in-Some.field-0.0 c.from_residual.ensures.1
    (λ refusal sets decoded.
    let said = sets_of d value sets (subst (λ (o : Option Data). AreSetsIn d o sets) (sym c.in-Some.ensures.value) decoded) in
    c.in_err-list-in-Some.ensures.refused refusal said.0
    (subst (λ (e : Mode). IsList (DecodesToLabels e) value said.0) (sym c.in-Some.ensures.mode) said.1, all_sure said.0))

pub returns-in_ok-list-in-Some-clause-decoded : goal.returns-in_ok-list-in-Some-clause-decoded
returns-in_ok-list-in-Some-clause-decoded c =
    let d = c.args.item.now.mode in
    let value = view c.in-Some.member.value in
    let sets : List (List Label) = c.in_ok-list-in-Some.field-0.items in
    let found = get_member c.args.name.now (members_view c.args.item.now.members) in
    subst (λ (s : List (List Label)). AreSetsIn d found (Some s)) (sym c.from.ensures)
    (subst (λ (o : Option Data). AreSetsIn d o (Some sets)) c.in-Some.ensures.value
    (subst (λ (e : Mode). IsList (DecodesToLabels e) value sets) c.in-Some.ensures.mode c.in_ok-list-in-Some.ensures.decoded))
