-- Matchers that compare texts, and those that search for a pattern.
use Rattle.std.proofs.Common.{◌≡◌, ℕ, ◌<◌, Bool, true, false, not, ◌||◌, List, None, Some, if◌then◌else◌, get_or, refl, sym, ap}
use Rattle.am_alerts.specs.Matcher.{compares_texts, has_pattern, is_passed, is_text, passes, pattern_of, takes_text}
use Rattle.am_alerts.specs.Pattern.{anchored, has_match, is_pattern}
use Rattle.am_alerts.specs.Plain.{is_plain_pattern}
use Rattle.am_alerts.specs.declared.matcher.MatcherParts.{MatcherParts}
use Rattle.am_alerts.specs.declared.matcher.Operator.{Operator}
use Rattle.am_alerts.specs.declared.matcher.Operator.TheVariants.{Equal, NotEqual, Like, NotLike}
use Rattle.am_alerts.proofs.PlainMatches.{plain_is_pattern, plain_matches}

tests_pattern : (op : Operator) (plain : Bool) (wanted value p : List ℕ)
    → (if takes_text op || plain then None else Some (anchored wanted)) ≡ Some p → is_passed op (has_match p value) ≡ passes op wanted value
tests_pattern Equal plain wanted value p e = cc
tests_pattern NotEqual plain wanted value p e = cc
tests_pattern Like true wanted value p e = cc
tests_pattern Like false wanted value p e = cc
tests_pattern NotLike true wanted value p e = cc
tests_pattern NotLike false wanted value p e = cc

-- what a matcher that searches for a pattern tests
pub passes-pattern : (m : MatcherParts) (value p : List ℕ) → pattern_of m ≡ Some p →
    is_passed m.op (has_match p value) ≡ passes m.op m.value value
passes-pattern m value p e = tests_pattern m.op (is_plain_pattern m.value) m.value value p e

tests_text : (op : Operator) (wanted value : List ℕ) → ((k : ℕ) → get_or value k 0 < 256) → (takes_text op || is_plain_pattern wanted) ≡ true
    → is_passed op (is_text op wanted value) ≡ passes op wanted value
tests_text Equal wanted value bytes plain = refl
tests_text NotEqual wanted value bytes plain = refl
tests_text Like wanted value bytes plain = sym (plain_matches wanted plain value bytes)
tests_text NotLike wanted value bytes plain = ap not (sym (plain_matches wanted plain value bytes))

none_compares : (b : Bool) (p : List ℕ) → (if b then None else Some p) ≡ None → b ≡ true
none_compares true p e = refl
none_compares false p e = cc

-- what a matcher without a pattern to search for tests
pub passes-text : (m : MatcherParts) (value : List ℕ) → ((k : ℕ) → get_or value k 0 < 256) → pattern_of m ≡ None
    → is_passed m.op (is_text m.op m.value value) ≡ passes m.op m.value value
passes-text m value bytes e = tests_text m.op m.value value bytes (none_compares (compares_texts m) (anchored m.value) e)

is_good : (op : Operator) (wanted : List ℕ) → (takes_text op || is_plain_pattern wanted) ≡ true → (takes_text op || is_pattern (anchored wanted)) ≡ true
is_good Equal wanted plain = refl
is_good NotEqual wanted plain = refl
is_good Like wanted plain = plain_is_pattern wanted plain
is_good NotLike wanted plain = plain_is_pattern wanted plain

-- plain texts with bars between them are a pattern
pub has_pattern-compared : (m : MatcherParts) → compares_texts m ≡ true → has_pattern m ≡ true
has_pattern-compared m plain = is_good m.op m.value plain

is_read : (op : Operator) (wanted : List ℕ) → is_pattern (anchored wanted) ≡ true → (takes_text op || is_pattern (anchored wanted)) ≡ true
is_read Equal wanted read = refl
is_read NotEqual wanted read = refl
is_read Like wanted read = read
is_read NotLike wanted read = read

-- and so is what was built
pub has_pattern-built : (m : MatcherParts) → is_pattern (anchored m.value) ≡ true → has_pattern m ≡ true
has_pattern-built m read = is_read m.op m.value read
