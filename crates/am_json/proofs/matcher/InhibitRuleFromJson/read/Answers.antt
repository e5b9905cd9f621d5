use Rattle.std.proofs.Common.{◌≡◌, [], None, Some, codes, subst, sym}
use Rattle.std.specs.Prelude.{IsTrue}
use Rattle.serde_json.specs.Data.{Data}
use Rattle.serde_json.specs.Find.{as_object, get_member}
use Rattle.serde_json.specs.View.{members_view, view}
use Rattle.am_alerts.specs.Matcher.{compare_texts}
use Rattle.am_mute.specs.Inhibit.{RuleData, rule_of, rule_fault}
use Rattle.am_json.specs.Configured.{DecodesToRule, HasRule, rule_compares_texts}
use Rattle.am_json.specs.Decoding.{IsList, IsText}
use Rattle.am_json.specs.Read.{ObjectData}
use Rattle.am_json.specs.declared.reader.Mode.{Mode}
use Rattle.am_json.proofs.Decoding.{all_sure, as_decoded, handed_on, in_object, missing, unknown}
use Rattle.am_json.proofs.Made.{made_is, made_well, unmade}
use Rattle.am_json.proofs.Members.{first, second}
use Rattle.am_json.proofs.Once.{one_list, one_matchers, one_or, one_text_of}
use Rattle.am_json.proofs.matcher.InhibitRuleFromJson.read.Goals as goal

-- what is never refused
abbrev Decodes : Mode → Data → RuleData → Type 0
Decodes mode value rule = DecodesToRule mode value rule × IsTrue (rule_compares_texts rule)

inside : (mode : Mode) (value : Data) (o : ObjectData) (rule : RuleData) → Some (members_view o.members) ≡ as_object value → o.mode ≡ mode
    → Decodes mode value rule → HasRule o.mode (members_view o.members) rule
inside mode value o rule is same decoded = in_object HasRule mode o.mode (members_view o.members) value rule is same decoded.0

pub returns-in-Ok-clause-decoded : goal.returns-in-Ok-clause-decoded
returns-in-Ok-clause-decoded c =
    let o = c.in_ok-rule.rule in
    let rule : RuleData = rule_of c.in_ok-source.source.items c.in_ok-target.target.items c.in_ok-equal.equal.items in
    let made : c.in-Ok.rule ≡ rule = made_is (rule_fault rule) rule c.in-Ok.rule c.in-Ok.ensures in
    let has : HasRule o.mode (members_view o.members) rule = record {
      only = sym c.in_ok-only.ensures.known;
      source = c.in_ok-source.ensures.decoded;
      target = c.in_ok-target.ensures.decoded;
      equal = c.in_ok-equal.ensures.decoded;
      few = (c.in_ok-source.ensures.few, c.in_ok-target.ensures.few);
      sound = made_well (rule_fault rule) rule c.in-Ok.rule c.in-Ok.ensures;
    } in
    subst (λ (r : RuleData). DecodesToRule c.args.reader.now.mode (view c.args.reader.now.value) r) (sym made)
    (as_decoded HasRule c.args.reader.now.mode o.mode (members_view o.members) (view c.args.reader.now.value) rule c.in_ok-rule.ensures.members
    c.in_ok-rule.ensures.mode has)

pub returns-in_err-rule-clause-refused : goal.returns-in_err-rule-clause-refused
returns-in_err-rule-clause-refused c =
    handed_on (Decodes c.args.reader.now.mode (view c.args.reader.now.value)) c.from_residual.result c.in_err-rule.field-0.0 c.from_residual.ensures.1
    (λ refusal x decoded. missing (λ ms. HasRule c.args.reader.now.mode ms x) (as_object (view c.args.reader.now.value)) c.in_err-rule.ensures.members decoded.0)

pub returns-in_err-only-clause-refused : goal.returns-in_err-only-clause-refused
returns-in_err-only-clause-refused c =
    handed_on (Decodes c.args.reader.now.mode (view c.args.reader.now.value)) c.from_residual-in_err-only.result c.in_err-only.field-0.0 c.from_residual-in_err-only.ensures.1
    (λ refusal x decoded. unknown _ c.in_err-only.ensures.known (inside c.args.reader.now.mode (view c.args.reader.now.value) c.in_ok-rule.rule x c.in_ok-rule.ensures.members c.in_ok-rule.ensures.mode decoded).only)

pub returns-in_err-source-clause-refused : goal.returns-in_err-source-clause-refused
returns-in_err-source-clause-refused c =
    handed_on (Decodes c.args.reader.now.mode (view c.args.reader.now.value)) c.from_residual-in_err-source.result c.in_err-source.field-0.0 c.from_residual-in_err-source.ensures.1
    (λ refusal x decoded. c.in_err-source.ensures.refused refusal x.source (
      (inside c.args.reader.now.mode (view c.args.reader.now.value) c.in_ok-rule.rule x c.in_ok-rule.ensures.members c.in_ok-rule.ensures.mode decoded).source,
      first (compare_texts x.source) (compare_texts x.target) decoded.1,
      (inside c.args.reader.now.mode (view c.args.reader.now.value) c.in_ok-rule.rule x c.in_ok-rule.ensures.members c.in_ok-rule.ensures.mode decoded).few.0,
    ))

pub returns-in_err-target-clause-refused : goal.returns-in_err-target-clause-refused
returns-in_err-target-clause-refused c =
    handed_on (Decodes c.args.reader.now.mode (view c.args.reader.now.value)) c.from_residual-in_err-target.result c.in_err-target.field-0.0 c.from_residual-in_err-target.ensures.1
    (λ refusal x decoded. c.in_err-target.ensures.refused refusal x.target (
      (inside c.args.reader.now.mode (view c.args.reader.now.value) c.in_ok-rule.rule x c.in_ok-rule.ensures.members c.in_ok-rule.ensures.mode decoded).target,
      second (compare_texts x.source) (compare_texts x.target) decoded.1,
      (inside c.args.reader.now.mode (view c.args.reader.now.value) c.in_ok-rule.rule x c.in_ok-rule.ensures.members c.in_ok-rule.ensures.mode decoded).few.1,
    ))

pub returns-in_err-equal-clause-refused : goal.returns-in_err-equal-clause-refused
returns-in_err-equal-clause-refused c =
    handed_on (Decodes c.args.reader.now.mode (view c.args.reader.now.value)) c.from_residual-in_err-equal.result c.in_err-equal.field-0.0 c.from_residual-in_err-equal.ensures.1
    (λ refusal x decoded. c.in_err-equal.ensures.refused refusal x.equal ((inside c.args.reader.now.mode (view c.args.reader.now.value) c.in_ok-rule.rule x c.in_ok-rule.ensures.members c.in_ok-rule.ensures.mode decoded).equal, all_sure x.equal))

-- a rule that says too much
pub returns-in-Err-clause-refused : goal.returns-in-Err-clause-refused
returns-in-Err-clause-refused c refusal x decoded =
    let o = c.in_ok-rule.rule in
    let members = members_view o.members in
    let rule : RuleData = rule_of c.in_ok-source.source.items c.in_ok-target.target.items c.in_ok-equal.equal.items in
    let has = inside c.args.reader.now.mode (view c.args.reader.now.value) o x c.in_ok-rule.ensures.members c.in_ok-rule.ensures.mode decoded in
    let source = one_matchers o.mode (get_member (codes "source") members) x.source rule.source (first (compare_texts x.source) (compare_texts x.target) decoded.1) has.source c.in_ok-source.ensures.decoded in
    let target = one_matchers o.mode (get_member (codes "target") members) x.target rule.target (second (compare_texts x.source) (compare_texts x.target) decoded.1) has.target c.in_ok-target.ensures.decoded in
    let equal = one_or (IsList IsText) (one_list IsText one_text_of) [] (get_member (codes "equal") members) x.equal rule.equal has.equal c.in_ok-equal.ensures.decoded in
    let same : x ≡ rule = λ i. record { source = source i; target = target i; equal = equal i } in
    unmade (rule_fault rule) rule _ c.in-Err.ensures (subst (λ (r : RuleData). rule_fault r ≡ None) same has.sound)
