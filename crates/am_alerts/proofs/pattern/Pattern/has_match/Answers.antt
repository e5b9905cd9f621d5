use Rattle.std.proofs.Common.{◌∙◌, ap}
use Rattle.am_alerts.specs.Pattern.{has_match}
use Rattle.am_alerts.proofs.Patterns.{has_match-compiled}
use Rattle.am_alerts.proofs.pattern.Pattern.has_match.Goals as goal

pub returns : goal.returns
returns c =
    rw (c.is_match.ensures.found, c.in_ok-matcher.ensures.pattern)
    (has_match-compiled c.self.inside.regex c.self.invariant c.args.text.now (λ k. (c.type_inv.text k).fits)
    ∙ ap (λ p. has_match p c.args.text.now) c.self.view_is)
