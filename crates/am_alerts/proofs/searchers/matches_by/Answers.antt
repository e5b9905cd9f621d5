use Rattle.std.proofs.Common.{◌≡◌, Some, rules}
use Rattle.am_alerts.specs.Matcher.{pattern_of}
use Rattle.am_alerts.proofs.MetPatterns.{met_value, met_put}
use Rattle.am_alerts.proofs.searchers.matches_by.Goals as goal

pub returns-clause-value : goal.returns-clause-value
returns-clause-value c =
    let is : pattern_of c.args.matcher.now ≡ Some c.in-Some.pattern.now = search rules in
    rw (c.is_passed.ensures, c.has_match-found.ensures.found, c.value_in.ensures)
    (met_value c.args.matcher.now _ c.in-Some.pattern.now c.index_mut.result.now c.args.index c.args.searchers.now.items
    c.reach.new.searchers.items is c.requires.index (search rules) (search rules) c.index_mut.ensures.value)

pub returns-clause-put : goal.returns-clause-put
returns-clause-put c =
    let is : pattern_of c.args.matcher.now ≡ Some c.in-Some.pattern.now = search rules in
    met_put c.args.matcher.now c.in-Some.pattern.now c.index_mut.result.now c.has_match-found.new.self c.args.index
    c.args.searchers.now.items c.reach.new.searchers.items is (search rules) c.index_mut.ensures.value c.has_match-found.ensures.kept
