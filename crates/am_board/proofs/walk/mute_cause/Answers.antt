use Rattle.std.proofs.Common.{[], ◌∙◌}
use Rattle.std.proofs.lemmas.Result.{IfOk-weaker}
use Rattle.am_mute.specs.Mute.{mute_cause_of}
use Rattle.am_board.proofs.lemmas.unsilenced.Muting.{unsilenced_cause}
use Rattle.am_board.proofs.walk.mute_cause.Goals as goal

pub returns-then-is_unsilenced : goal.returns-then-is_unsilenced
returns-then-is_unsilenced c =
    let look = c.args.look.now in
    let ls = c.args.labels.now in
    let s = look.state.now in
    IfOk-weaker c.mute_cause_with.result _ _
    (λ cause h. h
    ∙ (λ i. mute_cause_of ls look.t [] (c.as_slice-rules.ensures i) (c.as_slice-known.ensures.value i))
    ∙ unsilenced_cause ls look.t s.silences.items look.config.now.rules s.known.items (c.is_unsilenced.ensures c.if-is_unsilenced.true))
    c.mute_cause_with.ensures.cause
