use Rattle.std.proofs.Common.{refl}
use Rattle.am_alerts.proofs.TreeLaws.{is_nearest, is_own, own-below}
use Rattle.am_alerts.proofs.law.options_are_the_nearest.Goals as goal

pub returns-clause-options : goal.returns-clause-options
returns-clause-options c = (
  is_nearest (λ r. r.receiver) (λ r. r.options.receiver) (λ above r. refl),
  is_nearest (λ r. r.group_by) (λ r. r.options.group_by) (λ above r. refl),
  is_nearest (λ r. r.group_wait) (λ r. r.options.group_wait) (λ above r. refl),
  is_nearest (λ r. r.group_interval) (λ r. r.options.group_interval) (λ above r. refl),
  is_nearest (λ r. r.repeat_interval) (λ r. r.options.repeat_interval) (λ above r. refl),
)

pub returns-clause-others : goal.returns-clause-others
returns-clause-others c = λ root rules. (
  is_own (λ c. c.route.name) (λ r. r.name) (λ above r. refl) root rules,
  is_own (λ c. c.matchers) (λ r. r.matchers) (λ above r. refl) root rules,
  is_own (λ c. c.continues) (λ r. r.continues) (λ above r. refl) root rules,
  own-below (λ r. r.muted) (λ r. r.muted) (λ above r. refl) root rules,
)
