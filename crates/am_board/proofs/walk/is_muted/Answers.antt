use Rattle.std.proofs.Common.{[], ◌∙◌}
use Rattle.std.proofs.lemmas.Result.{IfOk-weaker}
use Rattle.am_mute.specs.Mute.{is_muted}
use Rattle.am_board.proofs.lemmas.unsilenced.Muting.{unsilenced_muted}
use Rattle.am_board.proofs.walk.is_muted.Goals as goal

pub returns-then-is_unsilenced : goal.returns-then-is_unsilenced
returns-then-is_unsilenced c =
    let look = c.args.look.now in
    let ls = c.args.labels.now in
    let s = look.state.now in
    IfOk-weaker c.muted_with.result _ _
    (λ muted h. h
    ∙ (λ i. is_muted ls look.t [] (c.as_slice-rules.ensures i) (c.as_slice-known.ensures.value i))
    ∙ unsilenced_muted ls look.t s.silences.items look.config.now.rules s.known.items (c.is_unsilenced.ensures c.if-is_unsilenced.true))
    c.muted_with.ensures.value
