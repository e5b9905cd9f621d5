use Rattle.std.proofs.Common.{◌≡◌, ◌∙◌, ◌≤◌, ap, ℕ, List, [], MatchOption, Option, Some, length, subst, sym, arith}
use Rattle.std.proofs.lemmas.Result.{IfOk-weaker}
use Rattle.std.specs.Prelude.{IsTrue}
use Rattle.serde_json.specs.Data.{Data}
use Rattle.serde_json.specs.Find.{as_array, get_member}
use Rattle.serde_json.specs.View.{members_view, view}
use Rattle.am_alerts.specs.Matcher.{compare_texts}
use Rattle.am_alerts.specs.declared.matcher.MatcherParts.{MatcherParts}
use Rattle.am_json.specs.Configured.{DecodesToMatcher, most_matchers}
use Rattle.am_json.specs.Decoding.{HasOr, IsList}
use Rattle.am_json.specs.Read.{ObjectData}
use Rattle.am_json.specs.declared.reader.Mode.{Mode}
use Rattle.am_json.proofs.Decoding.{found, narrowed}
use Rattle.am_json.proofs.Members.{decoded_values}
use Rattle.am_json.proofs.matcher.read_side.Goals as goal

-- what is never refused
abbrev Decodes : ObjectData → List ℕ → List MatcherParts → Type 0
Decodes rule name ms = HasOr (IsList (DecodesToMatcher rule.mode)) [] name (members_view rule.members) ms × IsTrue (compare_texts ms) × (length ms ≤ most_matchers rule.mode)

-- what the member says that is there
there : (rule : ObjectData) (name : List ℕ) (value : Data) (ms : List MatcherParts) → Some value ≡ get_member name (members_view rule.members)
    → Decodes rule name ms → IsList (DecodesToMatcher rule.mode) value ms
there rule name value ms is decoded = found (ms ≡ []) (λ v. IsList (DecodesToMatcher rule.mode) v ms) value (get_member name (members_view rule.members)) is decoded.0

-- a list that says too many matchers
pub returns-then-branch-most-clause-refused : goal.returns-then-branch-most-clause-refused
returns-then-branch-most-clause-refused c refusal ms decoded =
    let rule = c.args.rule.now in
    let value = view c.in-Some.member.value in
    let count = decoded_values (DecodesToMatcher rule.mode) (as_array value) c.in_ok-array.field-0.now ms c.in_ok-array.ensures.items
    (there rule c.args.name.now value ms c.in-Some.ensures.value decoded) in
    absurd (omega (arith, count, decoded.2, c.most_matchers-most.ensures ∙ ap most_matchers c.mode.ensures))

pub returns-clause-few : goal.returns-clause-few
returns-clause-few c =
    let member = c.in-Some.member in
    IfOk-weaker c.list.result _ _
    (λ ms decoded. omega (
      arith,
      c.most_matchers-most.ensures ∙ ap most_matchers c.mode.ensures,
      decoded_values (DecodesToMatcher member.mode) (as_array (view member.value)) c.in_ok-array.field-0.now ms.items c.in_ok-array.ensures.items decoded,
    ))
    c.list.ensures.decoded

pub returns-clause-refused : goal.returns-clause-refused
returns-clause-refused c =
    let rule = c.args.rule.now in
    let name = c.args.name.now in
    let member = c.in-Some.member in
    let There = λ (ms : List MatcherParts). IsList (DecodesToMatcher member.mode) (view member.value) ms × IsTrue (compare_texts ms) in
    narrowed There (Decodes rule name)
    (λ ms decoded. (
      subst (λ (mode : Mode). IsList (DecodesToMatcher mode) (view member.value) ms) (sym c.in-Some.ensures.mode)
          (there rule name (view member.value) ms c.in-Some.ensures.value decoded),
      decoded.1,
    ))
    c.list.result c.list.ensures.refused

pub returns-clause-decoded : goal.returns-clause-decoded
returns-clause-decoded c =
    let rule = c.args.rule.now in
    let member = c.in-Some.member in
    IfOk-weaker c.list.result _ _
    (λ ms decoded. subst (λ (o : Option Data). MatchOption o (ms.items ≡ []) (λ v. IsList (DecodesToMatcher rule.mode) v ms.items)) c.in-Some.ensures.value
    (subst (λ (mode : Mode). IsList (DecodesToMatcher mode) (view member.value) ms.items) c.in-Some.ensures.mode decoded))
    c.list.ensures.decoded
