use Rattle.std.proofs.Common.{◌≡◌, Ok, sym}
use Rattle.serde_json.specs.Find.{as_str}
use Rattle.serde_json.specs.View.{view}
use Rattle.jiff.specs.Words.{parse_timestamp}
use Rattle.am_protocol.proofs.Clocks.{of_text}
use Rattle.am_protocol.proofs.hours.read_start.Goals as goal

pub returns-in-Ok : goal.returns-in-Ok
returns-in-Ok c =
    of_text (λ text. parse_timestamp text ≡ Ok c.in-Ok.read.nanosecond) (as_str (view c.args.start.now.value)) c.in_ok-text.field-0.now c.in_ok-text.ensures.text (sym c.in-Ok.ensures.value)
