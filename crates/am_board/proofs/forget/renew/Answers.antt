use Rattle.std.proofs.Common.{List, sym, subst}
use Rattle.am_alerts.specs.AlertData.{AlertData}
use Rattle.am_mute.specs.Inhibit.{RuleData}
use Rattle.am_mute.specs.Sources.{AreLearnt}
use Rattle.am_board.proofs.forget.renew.Goals as goal

pub learn-requires : goal.learn-requires
learn-requires c = c.new.ensures.nothing c.as_slice.result.now c.args.known.now

pub returns : goal.returns
returns c before learnt same =
    subst (λ (rules : List RuleData). AreLearnt rules c.args.known.now c.learn.new.self) c.as_slice.ensures c.learn.ensures.learnt

pub returns-then-gone-eq0 : goal.returns-then-gone-eq0
returns-then-gone-eq0 c before learnt same =
    subst (λ (known : List AlertData). AreLearnt c.args.config.now.rules known c.args.sources.now) (sym (same c.if-gone-eq0.true)) learnt
