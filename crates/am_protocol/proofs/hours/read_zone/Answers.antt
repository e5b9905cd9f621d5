use Rattle.std.proofs.Common.{inl, inr}
use Rattle.std.proofs.lemmas.Result.{IfOk-weaker}
use Rattle.std.specs.Prelude.{◌⊎◌}
use Rattle.serde_json.specs.Find.{as_str}
use Rattle.serde_json.specs.View.{view}
use Rattle.am_hours.specs.Zones.{IsOfRule}
use Rattle.am_protocol.proofs.Clocks.{of_text, of_text_ok}
use Rattle.am_protocol.specs.Hours.{IsOfEncoded}
use Rattle.am_protocol.proofs.hours.read_zone.Goals as goal

pub returns-in-Ok : goal.returns-in-Ok
returns-in-Ok c =
    of_text (λ text. IsOfRule text c.in-Ok.zone ⊎ IsOfEncoded text c.in-Ok.zone) (as_str (view c.args.reader.now.value)) c.in_ok-text.text.now c.in_ok-text.ensures.text
    (inl c.in-Ok.ensures.value)

pub returns-in-Err : goal.returns-in-Err
returns-in-Err c =
    of_text_ok (λ text zone. IsOfRule text zone ⊎ IsOfEncoded text zone) c.read_encoded.result (as_str (view c.args.reader.now.value)) c.in_ok-text.text.now c.in_ok-text.ensures.text
    (IfOk-weaker c.read_encoded.result _ _ (λ zone is. inr is) c.read_encoded.ensures)
