use Rattle.std.proofs.Common.{true≢false, sym, ◌∙◌, arith}
use Rattle.am_mute.proofs.RequiredLabels.{one_compares, one_mutes}
use Rattle.am_mute.proofs.silence_index.is_silenced_at.Goals as goal

pub returns-in_err-mutes-clause-answers : goal.returns-in_err-mutes-clause-answers
returns-in_err-mutes-clause-answers c all =
    let mine = one_compares c.args.silences.now _ c.index-silences-index.result (c.requires c.loop-index.index-index 0 (omega arith))
    c.index-silences-index.is all in
    absurd (true≢false (sym (c.in_err-mutes.ensures.answers mine)))

pub returns-then-branch-clause-some : goal.returns-then-branch-clause-some
returns-then-branch-clause-some c fact =
    one_mutes c.args.silences.now c.args.labels.now c.args.t _ c.index-silences-index.result
    (c.requires c.loop-index.index-index 0 (omega arith)) c.index-silences-index.is
    (sym c.in_ok-mutes.ensures.value ∙ c.if-branch.true)
