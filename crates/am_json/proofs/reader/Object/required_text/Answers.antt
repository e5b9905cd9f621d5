use Rattle.serde_json.specs.Find.{get_member}
use Rattle.serde_json.specs.View.{members_view, view}
use Rattle.am_json.specs.Decoding.{Has, IsText}
use Rattle.am_json.proofs.Decoding.{found, handed_on, missing, no_text, starved}
use Rattle.am_json.proofs.reader.Object.required_text.Goals as goal

pub returns-in_err-required-clause-refused : goal.returns-in_err-required-clause-refused
returns-in_err-required-clause-refused c =
    let name = c.args.name.now in
    let members = members_view c.args.self.now.members in
    handed_on (Has IsText name members) c.from_residual.result c.in_err-required.field-0.0 c.from_residual.ensures.1
    (λ refusal text decoded. missing (λ v. IsText v text) (get_member name members) c.in_err-required.ensures.value decoded)

pub returns-in_err-text-clause-refused : goal.returns-in_err-text-clause-refused
returns-in_err-text-clause-refused c =
    let name = c.args.name.now in
    let members = members_view c.args.self.now.members in
    let value = view c.in_ok-required.field-0.value in
    handed_on (Has IsText name members) c.from_residual-in_err-text.result c.in_err-text.field-0.0 c.from_residual-in_err-text.ensures.1
    (λ refusal text decoded.
    no_text value text c.in_err-text.ensures.text (found ⊥ (λ v. IsText v text) value (get_member name members) c.in_ok-required.ensures.value decoded))

pub returns-in_err-new-clause-refused : goal.returns-in_err-new-clause-refused
returns-in_err-new-clause-refused c =
    starved (Has IsText c.args.name.now (members_view c.args.self.now.members)) c.from_residual-in_err-new.result c.from_residual-in_err-new.ensures.1
