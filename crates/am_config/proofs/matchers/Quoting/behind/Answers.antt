use Rattle.std.proofs.Common.{◌<◌, ◌∙◌, length, get_or, take, ap, sym, arith}
use Rattle.std.proofs.lemmas.List.{take_more}
use Rattle.am_config.specs.Matchers.{quoting_after, quoting_behind}
use Rattle.am_config.proofs.Pieces.{quoting_more}
use Rattle.am_config.proofs.matchers.Quoting.behind.Goals as goal

pub loop-byte-preserved : goal.loop-byte-preserved
loop-byte-preserved c =
    let bytes = c.as_bytes-bytes.result.now in
    let i = c.loop-byte.byte-index in
    let byte = get_or bytes i 0 in
    let here : i < length bytes = omega arith in
    c.behind_byte-quoting.ensures ∙ ap (λ q. quoting_behind q byte) c.loop-byte.invariant ∙ sym (quoting_more c.args.self (take i bytes) byte)
    ∙ ap (quoting_after c.args.self) (sym (take_more bytes i 0 here))
