use Rattle.std.proofs.Common.{◌≡◌, ℕ, List, Option, Some, subst, sym}
use Rattle.std.specs.Prelude.{IsSomeAnd, IsTrue}
use Rattle.serde_json.specs.Data.{Data, Members}
use Rattle.serde_json.specs.Find.{as_object}
use Rattle.serde_json.specs.View.{members_view, view}
use Rattle.am_json.proofs.Decoding.{found, handed_on, unknown}
use Rattle.am_json.specs.Read.{has_only}
use Rattle.am_json.specs.declared.reader.Mode.{Mode}
use Rattle.am_plans.proofs.Decodings.{none_and, some_and}
use Rattle.am_plans.specs.Expected.{IsExpectedIn, IsExpectedOf, HasNoRegex, HasNoRegexIn, field_names}
use Rattle.am_terms.specs.declared.expectation.Expectation.{Expectation}
use Rattle.am_terms.specs.declared.rehearsal.TimedAction.{TimedAction}
use Rattle.am_plans.proofs.expectation.read_expectation.Goals as goal

abbrev Says : Mode → ℕ → ℕ → List TimedAction → Expectation → Members → Type 0
Says d until last plans x members = IsExpectedOf d until last plans members x × IsTrue (has_only d field_names members)

-- what is never refused
abbrev Decodes : Mode → ℕ → ℕ → List TimedAction → Data → Expectation → Type 0
Decodes d until last plans value x = IsExpectedIn d until last plans value x × HasNoRegexIn d value

-- what the members say of an object that was read
said : (d e : Mode) (until last : ℕ) (plans : List TimedAction) (x : Expectation) (members : Members) (value : Data) → Some members ≡ as_object value → e ≡ d
    → IsExpectedIn d until last plans value x → Says e until last plans x members
said d e until last plans x members value is same decoded =
    subst (λ (f : Mode). Says f until last plans x members) (sym same) (some_and (Says d until last plans x) members (as_object value) is decoded)

without_patterns : (d e : Mode) (members : Members) (value : Data) → Some members ≡ as_object value → e ≡ d → HasNoRegexIn d value → HasNoRegex e members
without_patterns d e members value is same without =
    subst (λ (f : Mode). HasNoRegex f members) (sym same) (found Unit (HasNoRegex d) members (as_object value) is without)

pub returns-clause-decoded : goal.returns-clause-decoded
returns-clause-decoded c =
    let item = c.in_ok-item.item in
    let x = c.in_ok-read_members.field-0 in
    subst (λ (o : Option Members). IsSomeAnd o (Says c.args.reader.now.mode c.args.until c.args.last c.args.plans.now x)) c.in_ok-item.ensures.members
    (subst (λ (d : Mode). Says d c.args.until c.args.last c.args.plans.now x (members_view item.members)) c.in_ok-item.ensures.mode
    (c.in_ok-read_members.ensures.decoded, sym c.in_ok-only.ensures.known))

pub returns-in_err-item-clause-refused : goal.returns-in_err-item-clause-refused
returns-in_err-item-clause-refused c =
    let d = c.args.reader.now.mode in
    let value = view c.args.reader.now.value in
    handed_on (Decodes d c.args.until c.args.last c.args.plans.now value) c.from_residual.result c.in_err-item.field-0.0 c.from_residual.ensures.1
    (λ refusal x decoded. none_and (Says d c.args.until c.args.last c.args.plans.now x) (as_object value) c.in_err-item.ensures.members decoded.0)

pub returns-in_err-only-clause-refused : goal.returns-in_err-only-clause-refused
returns-in_err-only-clause-refused c =
    let d = c.args.reader.now.mode in
    let value = view c.args.reader.now.value in
    let item = c.in_ok-item.item in
    handed_on (Decodes d c.args.until c.args.last c.args.plans.now value) c.from_residual-in_err-only.result c.in_err-only.field-0.0 c.from_residual-in_err-only.ensures.1
    (λ refusal x decoded. unknown _ c.in_err-only.ensures.known
    (said d item.mode c.args.until c.args.last c.args.plans.now x (members_view item.members) value c.in_ok-item.ensures.members c.in_ok-item.ensures.mode decoded.0).1)

pub returns-in_err-read_members-clause-refused : goal.returns-in_err-read_members-clause-refused
returns-in_err-read_members-clause-refused c =
    let d = c.args.reader.now.mode in
    let value = view c.args.reader.now.value in
    let item = c.in_ok-item.item in
    let members = members_view item.members in
    handed_on (Decodes d c.args.until c.args.last c.args.plans.now value) c.from_residual-in_err-read_members.result c.in_err-read_members.field-0.0 c.from_residual-in_err-read_members.ensures.1
    (λ refusal x decoded. c.in_err-read_members.ensures.refused refusal x (
      (said d item.mode c.args.until c.args.last c.args.plans.now x members value c.in_ok-item.ensures.members c.in_ok-item.ensures.mode decoded.0).0,
      without_patterns d item.mode members value c.in_ok-item.ensures.members c.in_ok-item.ensures.mode decoded.1,
    ))
