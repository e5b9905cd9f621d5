use Rattle.std.proofs.Common.{sym, ap, ◌∙◌}
use Rattle.am_alerts.specs.Pattern.{is_pattern}
use Rattle.am_alerts.proofs.Patterns.{is_pattern-compiled}
use Rattle.am_alerts.proofs.pattern.Pattern.whole.Goals as goal

pub returns-in-Ok-new-clause-read : goal.returns-in-Ok-new-clause-read
returns-in-Ok-new-clause-read c =
    let made = c.in-Ok-new.ensures in
    ap is_pattern (sym (made.source ∙ c.as_str.ensures.value ∙ c.in-Ok.ensures))
    ∙ is_pattern-compiled c.in-Ok-new.regex (made.config, made.read)
