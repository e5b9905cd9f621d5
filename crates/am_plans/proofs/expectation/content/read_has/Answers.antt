use Rattle.std.proofs.Common.{ℕ, Bool, List, Option, true, sym, subst}
use Rattle.std.specs.Option.{option_map_or}
use Rattle.std.specs.Prelude.{IsTrue}
use Rattle.serde_json.specs.Data.{Members}
use Rattle.serde_json.specs.View.{members_view, view}
use Rattle.am_alerts.specs.Matcher.{compare_texts}
use Rattle.am_alerts.specs.declared.matcher.MatcherParts.{MatcherParts}
use Rattle.am_json.proofs.Decoding.{handed_on}
use Rattle.am_json.specs.declared.reader.Mode.{Mode}
use Rattle.am_plans.proofs.NoRegex.{said_of, said_other, said_own}
use Rattle.am_plans.specs.Expected.{AreMatchersIn, AreMatchersOf, said_or_of}
use Rattle.am_plans.proofs.expectation.content.read_has.Goals as goal

abbrev Decodes : Mode → Bool → List ℕ → Members → Option (List MatcherParts) → Type 0
Decodes mode or_of name members ms = AreMatchersIn mode (said_or_of or_of name members) ms × IsTrue (option_map_or compare_texts ms true)

pub returns-in_err-read_matchers-clause-refused : goal.returns-in_err-read_matchers-clause-refused
returns-in_err-read_matchers-clause-refused c =
    let d = c.args.item.now.mode in
    let members = members_view c.args.item.now.members in
    let member = c.in-Some.member in
    handed_on (Decodes d c.args.or_of c.args.name.now members) c.from_residual.result c.in_err-read_matchers.field-0.0 c.from_residual.ensures.1
    (λ refusal ms decoded.
    let said = said_of d (said_or_of c.args.or_of c.args.name.now members) (view member.value) ms
    (said_own c.args.or_of c.args.name.now members (view member.value) c.in-Some.ensures.value) decoded.0 decoded.1 in
    c.in_err-read_matchers.ensures.refused refusal said.0
    (subst (λ (e : Mode). AreMatchersOf e (view member.value) said.0) (sym c.in-Some.ensures.mode) said.1, said.2))

pub returns-in_err-read_matchers-in-Some-optional-clause-refused : goal.returns-in_err-read_matchers-in-Some-optional-clause-refused
returns-in_err-read_matchers-in-Some-optional-clause-refused c =
    let d = c.args.item.now.mode in
    let members = members_view c.args.item.now.members in
    let member = c.in-Some-optional.member in
    handed_on (Decodes d c.args.or_of c.args.name.now members) c.from_residual-in_err-read_matchers-in-Some-optional.result c.in_err-read_matchers-in-Some-optional.field-0.0 c.from_residual-in_err-read_matchers-in-Some-optional.ensures.1
    (λ refusal ms decoded.
    let said = said_of d (said_or_of c.args.or_of c.args.name.now members) (view member.value) ms
    (said_other c.args.or_of c.args.name.now members (view member.value) c.in_default.ensures.value c.if-not-or_of.false c.in-Some-optional.ensures.value) decoded.0 decoded.1 in
    c.in_err-read_matchers-in-Some-optional.ensures.refused refusal said.0
    (subst (λ (e : Mode). AreMatchersOf e (view member.value) said.0) (sym c.in-Some-optional.ensures.mode) said.1, said.2))
