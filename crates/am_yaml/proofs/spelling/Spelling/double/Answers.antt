use Rattle.std.proofs.Common.{◌≡◌, ◌∙◌, Some, false, true, ap, sym}
use Rattle.std.proofs.lemmas.Result.{IfOk-weaker}
use Rattle.serde_json.specs.Read.{read}
use Rattle.serde_json.specs.View.{view}
use Rattle.am_yaml.specs.Spelling.{json, escaped}
use Rattle.am_yaml.proofs.Views.{view_string}
use Rattle.am_yaml.proofs.spelling.Spelling.double.Goals as goal

pub returns-in-Ok-String : goal.returns-in-Ok-String
returns-in-Ok-String c =
    let text = c.in-Ok-String.text in
    rw c.in-Ok-String.text-is
    (json _ (sym c.byte.ensures ∙ c.if-byte-ne34.false) (ap read (sym c.in_ok-part.ensures.2) ∙ c.in-Ok-String.ensures.ok.1 ∙ ap (λ v. Some (view v)) c.in-Ok-String.field-0-is ∙ ap Some (view_string text)))

pub returns : goal.returns
returns c =
    let part = c.in_ok-part.ensures.2 in
    let quote = sym c.byte.ensures ∙ c.if-byte-ne34.false in
    let other = c.in-Err.ensures.err (λ memory. let no : false ≡ true = c.if-is_memory.ensures.1 memory in cc) in
    IfOk-weaker _ _ _ (λ s end. escaped _ (rw part at other) quote end) c.escaped.ensures
