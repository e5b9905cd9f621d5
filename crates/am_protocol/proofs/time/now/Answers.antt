use Rattle.std.proofs.Common.{◌≡◌, arith}
use Rattle.serde_json.specs.View.{view}
use Rattle.am_json.proofs.Decoding.{handed_on}
use Rattle.am_protocol.specs.Time.{IsNow}
use Rattle.am_protocol.proofs.time.now.Goals as goal

pub returns-in_err-now-clause-refused : goal.returns-in_err-now-clause-refused
returns-in_err-now-clause-refused c =
    handed_on (IsNow (view c.args.reader.now.value)) c.from_residual.result c.in_err-now.field-0.0 c.from_residual.ensures.1
    (λ refusal x decoded. absurd (cc (c.in_err-now.ensures, decoded.0)))

-- the greatest time, or one after it
pub returns-then-now-ge-MAX_TIME-clause-refused : goal.returns-then-now-ge-MAX_TIME-clause-refused
returns-then-now-ge-MAX_TIME-clause-refused c refusal x decoded =
    let same : x ≡ c.in_ok-now.now = cc (c.in_ok-now.ensures, decoded.0) in
    absurd (omega (arith, same, decoded.1))
