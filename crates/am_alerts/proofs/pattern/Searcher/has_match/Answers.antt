use Rattle.std.proofs.Common.{◌∙◌, ap}
use Rattle.am_alerts.specs.Pattern.{has_match}
use Rattle.am_alerts.proofs.Patterns.{has_match-compiled}
use Rattle.am_alerts.proofs.pattern.Searcher.has_match.Goals as goal

pub returns-clause-found : goal.returns-clause-found
returns-clause-found c =
    rw (c.is_match.ensures.found, c.self.invariant.1)
    (has_match-compiled c.self.inside.regex.now c.self.invariant.0 c.args.text.now (λ k. (c.type_inv.text k).fits)
    ∙ ap (λ p. has_match p c.args.text.now) c.self.view_is)
