use Rattle.std.proofs.Common.{rules}
use Rattle.am_alerts.proofs.Compared.{has_pattern-compared}
use Rattle.am_alerts.proofs.matcher.pattern_of.Goals as goal

pub returns-then-compares_texts-clause-read : goal.returns-then-compares_texts-clause-read
returns-then-compares_texts-clause-read c = has_pattern-compared c.args.parts.now (search rules)
