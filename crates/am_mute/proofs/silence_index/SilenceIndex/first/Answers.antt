use Rattle.std.proofs.Common.{◌≡◌, length, subst, arith}
use Rattle.std.proofs.lemmas.Result.{IfOk-weaker}
use Rattle.am_mute.specs.SilenceIndex.{IsFirst}
use Rattle.am_mute.proofs.RequiredLabels.{IsUnder}
use Rattle.am_mute.proofs.FirstSilences.{first_of_all}
use Rattle.am_mute.proofs.silence_index.SilenceIndex.first.Goals as goal

pub returns-clause-first : goal.returns-clause-first
returns-clause-first c =
    let silences = c.args.silences.now in
    let labels = c.args.labels.now in
    let index = c.args.self.now in
    let all : c.loop-i.i ≡ length labels = omega (arith, c.loop-i-test.false, c.loop-i.auto.i-end, c.len-i-end.ensures.length) in
    let labelled = subst (λ n. IsFirst (IsUnder index labels n) labels c.args.t silences (length silences) c.loop-i.first) all
    c.loop-i.invariant in
    IfOk-weaker c.first_from.result _ _
    (λ first rest. first_of_all silences index c.requires labels c.args.t c.loop-i.first c.in_ok-first-2.first first labelled
    c.in_ok-first-2.ensures.first rest) c.first_from.ensures.first

pub returns-clause-answers : goal.returns-clause-answers
returns-clause-answers c all = c.first_from.ensures.answers all
