use Rattle.std.proofs.Common.{◌≡◌, true, false, sym, ap, ◌∙◌, is_some, arith}
use Rattle.am_alerts.proofs.Finding.{find_here, find_none_more, find_none_all}
use Rattle.am_mute.specs.Silence.{SilenceData, silence_mutes}
use Rattle.am_mute.proofs.Firsts.{is_some-find}
use Rattle.am_mute.proofs.mute.silence_for.Goals as goal

pub returns-then-branch-clause-value : goal.returns-then-branch-clause-value
returns-then-branch-clause-value c =
    let mutes = λ (s : SilenceData). silence_mutes s c.args.t c.args.labels.now in
    let passes : mutes c.silence-item.result ≡ true = sym c.in_ok-mutes.ensures.value ∙ c.if-branch.true in
    sym (find_here mutes _ _ c.silence-item.result c.silence-item.result (omega arith) c.silence-item.is c.loop-silence.invariant passes)

pub loop-silence-preserved : goal.loop-silence-preserved
loop-silence-preserved c =
    let mutes = λ (s : SilenceData). silence_mutes s c.args.t c.args.labels.now in
    let fails : mutes c.silence-item.result ≡ false = sym c.in_ok-mutes.ensures.value ∙ c.if-branch.false in
    find_none_more mutes _ _ c.silence-item.result c.silence-item.result (omega arith) c.silence-item.is c.loop-silence.invariant fails

pub returns-then-branch-clause-some : goal.returns-then-branch-clause-some
returns-then-branch-clause-some c =
    let mutes = λ (s : SilenceData). silence_mutes s c.args.t c.args.labels.now in
    let passes : mutes c.silence-item.result ≡ true = sym c.in_ok-mutes.ensures.value ∙ c.if-branch.true in
    sym (ap is_some (find_here mutes _ _ c.silence-item.result c.silence-item.result (omega arith) c.silence-item.is
    c.loop-silence.invariant passes)) ∙ is_some-find mutes c.args.silences.now

pub returns-clause-some : goal.returns-clause-some
returns-clause-some c =
    let mutes = λ (s : SilenceData). silence_mutes s c.args.t c.args.labels.now in
    sym (ap is_some (find_none_all mutes _ _ c.loop-silence-test.false c.loop-silence.invariant)) ∙ is_some-find mutes c.args.silences.now
