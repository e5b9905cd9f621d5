use Rattle.std.proofs.Common.{length, sym, subst, arith}
use Rattle.am_mute.specs.SourceIndex.{SourceIndex}
use Rattle.am_mute.specs.Sources.{AreLearnt, HasKeysFrom}
use Rattle.am_mute.proofs.Learning.{grows_twice, has_rule, learnt_all, learnt_less}
use Rattle.am_mute.proofs.sources.Sources.learn.Goals as goal

pub returns-in_err-learn_by-clause-learnt : goal.returns-in_err-learn_by-clause-learnt
returns-in_err-learn_by-clause-learnt c =
    learnt_less c.args.rules.now c.args.known.now c.args.self.now c.learn_by.new.self c.requires
    (grows_twice c.args.self.now c.loop-number.self c.learn_by.new.self c.loop-number.invariant.0 c.learn_by.ensures.grows)

pub loop-number-preserved : goal.loop-number-preserved
loop-number-preserved c =
    let old = c.loop-number.self in
    let new = c.learn_by.new.self in
    let rule = c.index-rules-number.result in (
      grows_twice c.args.self.now old new c.loop-number.invariant.0 c.learn_by.ensures.grows,
      has_rule c.args.rules.now c.args.known.now c.args.self.now.learnt (length c.args.known.now) c.loop-number.number old new
          c.learn_by.ensures.grows c.loop-number.invariant.1 c.loop-number-test.true rule c.index-rules-number.is
          (subst (λ from. HasKeysFrom c.loop-number.number rule c.args.known.now from (length c.args.known.now) new)
          c.loop-number.invariant.0.learnt c.in_ok-learn_by.ensures.has),
    )

pub returns-clause-learnt : goal.returns-clause-learnt
returns-clause-learnt c =
    subst (λ (s : SourceIndex). AreLearnt c.args.rules.now c.args.known.now
    (record { all = s.all; one_sided = s.one_sided; learnt = length c.args.known.now; seed = s.seed })) (sym c.self-2.view_is)
    (learnt_all c.args.rules.now c.args.known.now c.args.self.now c.loop-number.self c.requires c.loop-number.invariant.0
    (λ number rule at. c.loop-number.invariant.1 number rule at (omega (arith, at.0, c.loop-number-test.false))))
