use Rattle.std.proofs.Common.{◌≡◌, ◌<◌, ◌∙◌, length, refl, rules, sym, true}
use Rattle.am_alerts.specs.Matcher.{matches_parts, pattern_of}
use Rattle.am_alerts.proofs.MetPatterns.{match_more, met_index, met_step, past, past-none, past-some}
use Rattle.am_alerts.proofs.searchers.all_match_by.Goals as goal
use Rattle.am_alerts.proofs.searchers.all_match_by.Goals.{then-is_some, else-is_some}

pub matches_by-requires-clause-index : goal.matches_by-requires-clause-index
matches_by-requires-clause-index c =
    met_index c.args.matchers.now c.loop-matcher.matcher-index c.matcher-item.result c.loop-matcher.patterns
    c.loop-matcher.searchers.items (search rules) c.matcher-item.is c.loop-matcher.invariant.1

pub returns-then-not-branch-clause-kept : goal.returns-then-not-branch-clause-kept
returns-then-not-branch-clause-kept c =
    (met_step c.args.matchers.now c.loop-matcher.matcher-index c.matcher-item.result c.loop-matcher.patterns _
    c.loop-matcher.searchers.items c.matches_by.new.searchers.items (search rules) c.matcher-item.is c.loop-matcher.invariant.1
    (search rules) refl).first

pub loop-matcher-preserved : goal.loop-matcher-preserved
loop-matcher-preserved c =
    let below : c.loop-matcher.matcher-index < length c.args.matchers.now = search rules in
    let matched : matches_parts c.matcher-item.result c.args.labels.now ≡ true = search rules in
    let counted : c.if-is_some.patterns ≡ past (pattern_of c.matcher-item.result) c.loop-matcher.patterns =
    elim c.if-is_some.branch [
      | then-is_some w ↦ w.patterns-is ∙ sym (past-some c.pattern.result _ c.loop-matcher.patterns c.pattern.ensures (search rules))
      | else-is_some w ↦ w.patterns-is ∙ sym (past-none c.pattern.result _ c.loop-matcher.patterns c.pattern.ensures (search rules))
    ] in (
      match_more c.args.matchers.now c.loop-matcher.matcher-index c.matcher-item.result c.args.labels.now below c.matcher-item.is
          c.loop-matcher.invariant.0 matched,
      met_step c.args.matchers.now c.loop-matcher.matcher-index c.matcher-item.result c.loop-matcher.patterns c.if-is_some.patterns
          c.loop-matcher.searchers.items c.matches_by.new.searchers.items below c.matcher-item.is c.loop-matcher.invariant.1
          (search rules) counted,
    )
