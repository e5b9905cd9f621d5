-- Spans of expectations: what is given with `within`, and the matchers of `of`.
use Rattle.std.proofs.Common.{◌≡◌, ◌≤◌, ◌+◌, ◌^◌, ℕ, true, List, Option, Some, None, MatchOption, codes, sym, arith}
use Rattle.std.specs.Prelude.{IsSomeAnd}
use Rattle.serde_json.specs.Data.{Data, Members}
use Rattle.serde_json.specs.Find.{get_member}
use Rattle.am_alerts.specs.Matcher.{compare_texts}
use Rattle.am_alerts.specs.declared.matcher.MatcherParts.{MatcherParts}
use Rattle.am_json.proofs.Decoding.{found}
use Rattle.am_json.proofs.Once.{one_matcher_list}
use Rattle.am_json.specs.Configured.{DecodesToMatcher}
use Rattle.am_json.specs.Decoding.{HasNone, IsList}
use Rattle.am_json.specs.declared.reader.Mode.{Mode}
use Rattle.am_plans.specs.Expected.{AreMatchersOf, IsEndOf, IsOwnSpan, IsSpanIn, IsSpanWithin, HasNoRegexAt}
use Rattle.am_terms.specs.declared.rehearsal.TimedAction.{TimedAction}

-- what is never refused of a span
abbrev pub DecodesSpan : Mode → ℕ → ℕ → List TimedAction → Members → ℕ × ℕ → Type 0
DecodesSpan mode until last plans members span = IsSpanIn mode until last plans members span.0 span.1 × HasNoRegexAt mode (codes "of") members

-- the same with `within`
abbrev pub DecodesWithin : Mode → ℕ → List TimedAction → Members → Data → ℕ × ℕ → Type 0
DecodesWithin mode last plans members within span =
    IsSpanWithin mode last plans members within span.0 span.1 × HasNoRegexAt mode (codes "of") members

-- what is given where `within` is there
pub together_with_within : (mode : Mode) (until last : ℕ) (plans : List TimedAction) (members : Members) (within : Data) (from to : ℕ)
    → Some within ≡ get_member (codes "within") members → IsSpanIn mode until last plans members from to
    → HasNone (codes "at") members × HasNone (codes "from") members × HasNone (codes "to") members × IsSpanWithin mode last plans members within from to
together_with_within mode until last plans members within from to is decoded =
    found (IsOwnSpan until last members from to)
    (λ w. HasNone (codes "at") members × HasNone (codes "from") members × HasNone (codes "to") members × IsSpanWithin mode last plans members w from to)
    within (get_member (codes "within") members) is decoded

-- the matchers of a member are those that it lists
pub are_listed : (mode : Mode) (o : Option Data) (ms : List MatcherParts) → MatchOption o ⊥ (λ value. AreMatchersOf mode value ms)
    → MatchOption o ⊥ (λ value. IsList (DecodesToMatcher mode) value ms)
are_listed mode None ms decoded = decoded
are_listed mode (Some value) ms decoded = decoded.listed

-- and one list at most, where they need no regex
pub one_of : (mode : Mode) (o : Option Data) (ms ns : List MatcherParts) → compare_texts ns ≡ true → MatchOption o ⊥ (λ value. AreMatchersOf mode value ms)
    → MatchOption o ⊥ (λ value. AreMatchersOf mode value ns) → ms ≡ ns
one_of mode None ms ns compare is also = absurd is
one_of mode (Some value) ms ns compare is also = sym (one_matcher_list mode value ns ms compare also.listed is.listed)

-- an end that is none
pub no_end_of : (o : Option ℕ) (from to length : ℕ) → Some length ≡ o → 2 ^ 64 ≤ from + length → IsSomeAnd o (IsEndOf from to) → ⊥
no_end_of None from to length is long decoded = decoded
no_end_of (Some n) from to length is long decoded =
    let same : length ≡ n = cc in
    absurd (omega (arith, decoded.0, decoded.1, same))
