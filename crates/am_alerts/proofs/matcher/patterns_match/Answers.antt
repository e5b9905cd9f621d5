use Rattle.am_alerts.proofs.PatternLaws.{patterns_match, pattern_rows}
use Rattle.am_alerts.proofs.matcher.patterns_match.Goals as goal

pub returns-clause-matches : goal.returns-clause-matches
returns-clause-matches c = patterns_match

pub returns-clause-rows : goal.returns-clause-rows
returns-clause-rows c = pattern_rows
