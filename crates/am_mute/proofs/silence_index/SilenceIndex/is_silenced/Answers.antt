use Rattle.std.proofs.Common.{ap, ◌∙◌, arith}
use Rattle.std.proofs.lemmas.List.{take_rest}
use Rattle.std.proofs.lemmas.Result.{IfOk-weaker}
use Rattle.am_mute.specs.Silence.{is_silenced}
use Rattle.am_mute.proofs.RequiredLabels.{rest_compares, rest_decides}
use Rattle.am_mute.proofs.silence_index.SilenceIndex.is_silenced.Goals as goal

pub returns-clause-value : goal.returns-clause-value
returns-clause-value c =
    let silences = c.args.silences.now in
    let labels = c.args.labels.now in
    let index = c.args.self.now in
    let decides = rest_decides silences index c.requires labels c.args.t
    (λ j x at. c.loop-i.invariant j x at (omega (arith, at.0, c.loop-i-test.false, c.len-i-end.ensures.length)))
    (c.in_ok-is_silenced_by-2.ensures.none c.if-branch-2.false) in
    IfOk-weaker c.is_silenced.result _ _ (λ r e. e ∙ (ap (is_silenced labels c.args.t) (take_rest silences index.indexed) ∙ decides))
    c.is_silenced.ensures.value

pub returns-clause-answers : goal.returns-clause-answers
returns-clause-answers c all = c.is_silenced.ensures.answers (rest_compares c.args.silences.now c.args.self.now.indexed all)
