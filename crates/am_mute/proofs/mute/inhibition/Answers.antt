use Rattle.std.proofs.Common.{Some, sym, ap, ◌∙◌, is_some, option_copied, arith}
use Rattle.am_mute.specs.declared.mute.MuteCause.TheVariants.{Inhibited}
use Rattle.am_mute.proofs.Firsts.{inhibition-here, inhibition-more, inhibition-none, is_some-inhibition_from}
use Rattle.am_mute.proofs.mute.inhibition.Goals as goal

pub loop-rule-preserved : goal.loop-rule-preserved
loop-rule-preserved c =
    inhibition-more c.args.labels.now c.args.t c.args.known.now c.args.rules.now c.loop-rule.rule c.index-rules-rule.result (omega arith)
    c.index-rules-rule.is c.loop-rule.invariant
    (sym c.in_ok-source.ensures.value ∙ ap option_copied c.in_default.is)

pub returns-in-Some-clause-cause : goal.returns-in-Some-clause-cause
returns-in-Some-clause-cause c = sym (
    inhibition-here c.args.labels.now c.args.t c.args.known.now c.args.rules.now c.loop-rule.rule c.index-rules-rule.result (omega arith)
    c.index-rules-rule.is c.loop-rule.invariant
    c.in-Some.source.now (sym c.in_ok-source.ensures.value ∙ ap option_copied c.in-Some.is)
    ∙ ap (λ ls. Some (Inhibited c.loop-rule.rule ls)) (sym c.labels.ensures.labels ∙ sym c.in_ok-copy.ensures))

pub returns-in-Some-clause-some : goal.returns-in-Some-clause-some
returns-in-Some-clause-some c =
    sym (ap is_some (inhibition-here c.args.labels.now c.args.t c.args.known.now c.args.rules.now c.loop-rule.rule c.index-rules-rule.result
    (omega arith) c.index-rules-rule.is c.loop-rule.invariant
    c.in-Some.source.now (sym c.in_ok-source.ensures.value ∙ ap option_copied c.in-Some.is)))
    ∙ is_some-inhibition_from 0 c.args.labels.now c.args.t c.args.known.now c.args.rules.now

pub returns-clause-cause : goal.returns-clause-cause
returns-clause-cause c =
    sym (inhibition-none c.args.labels.now c.args.t c.args.known.now c.args.rules.now _ c.loop-rule-test.false c.loop-rule.invariant)

pub returns-clause-some : goal.returns-clause-some
returns-clause-some c =
    sym (ap is_some (inhibition-none c.args.labels.now c.args.t c.args.known.now c.args.rules.now _ c.loop-rule-test.false
    c.loop-rule.invariant))
    ∙ is_some-inhibition_from 0 c.args.labels.now c.args.t c.args.known.now c.args.rules.now
