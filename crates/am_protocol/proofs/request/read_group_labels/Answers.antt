use Rattle.std.proofs.Common.{◌≡◌, ◌∙◌, List, Option, Some, None, sym}
use Rattle.std.proofs.lemmas.Bool.{true≢false}
use Rattle.std.specs.Prelude.{IsTrue}
use Rattle.serde_json.specs.View.{view}
use Rattle.am_alerts.specs.declared.labels.Label.{Label}
use Rattle.am_json.proofs.Decoding.{handed_on}
use Rattle.am_json.specs.Read.{Excludes, is_refusal}
use Rattle.am_json.specs.declared.fault.InputFault.{InputFault}
use Rattle.am_json.specs.declared.reader.Mode.{Mode}
use Rattle.am_json.specs.Configured.{DecodesToLabels}
use Rattle.serde_json.specs.Data.{Data, no_members}
use Rattle.serde_json.specs.Find.{as_object}
use Rattle.am_protocol.specs.Request.{IsGroupLabels}
use Rattle.am_protocol.proofs.request.read_group_labels.Goals as goal

-- labels that are refused, of a value that has members or is no object
excluded : (mode : Mode) (value : Data) (fault : InputFault) → (as_object value ≡ Some no_members → ⊥) → Excludes (DecodesToLabels mode value) fault
    → IsTrue (is_refusal fault) → (labels : Option (List Label)) → IsGroupLabels mode value labels → ⊥
excluded mode value fault some none refusal None decoded = some decoded
excluded mode value fault some none refusal (Some labels) decoded = none refusal labels decoded

pub returns-in_err-read_labels-clause-refused : goal.returns-in_err-read_labels-clause-refused
returns-in_err-read_labels-clause-refused c =
    handed_on (λ (labels : Option (List Label)). IsGroupLabels c.args.reader.now.mode (view c.args.reader.now.value) labels) c.from_residual.result c.in_err-read_labels.field-0.0 c.from_residual.ensures.1
    (excluded c.args.reader.now.mode (view c.args.reader.now.value) c.in_err-read_labels.field-0.0
    (λ none. true≢false (sym (c.has_no_members.ensures.some none) ∙ c.if-has_no_members.false)) c.in_err-read_labels.ensures.refused)
