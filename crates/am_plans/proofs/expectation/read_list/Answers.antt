use Rattle.std.proofs.Common.{◌<◌, ℕ, List, Option, Some, MatchOption, length, subst, sym, arith}
use Rattle.std.proofs.lemmas.Grind.{common_steps}
use Rattle.std.proofs.lemmas.List.{take_all}
use Rattle.serde_json.specs.Data.{Data, Items}
use Rattle.serde_json.specs.Find.{as_array}
use Rattle.serde_json.specs.View.{items_view, view}
use Rattle.serde_json.specs.declared.value.Value.{Value}
use Rattle.am_json.proofs.Decoding.{handed_on, missing, starved}
use Rattle.am_json.specs.Decoding.{DecodeEach}
use Rattle.am_json.specs.declared.reader.Mode.{Mode}
use Rattle.am_model.specs.declared.config.Config.{Config}
use Rattle.am_plans.specs.Configs.{configs_in}
use Rattle.am_plans.specs.Expected.{AreExpectedIn, HaveNoRegexIn, IsKnownIn, HasNoRegexIn}
use Rattle.am_plans.proofs.Lists.{decode_next}
use Rattle.am_plans.proofs.NoRegex.{no_regex_in, decoded_all}
use Rattle.am_terms.specs.declared.expectation.Expectation.{Expectation}
use Rattle.am_terms.specs.declared.rehearsal.TimedAction.{TimedAction}
use Rattle.am_plans.proofs.expectation.read_list.Goals as goal

-- what is never refused
abbrev Decodes : Mode → List Config → ℕ → ℕ → List TimedAction → Data → List Expectation → Type 0
Decodes d configs until last plans value xs = AreExpectedIn d configs until last plans (Some value) xs × HaveNoRegexIn d (Some value)

pub loop-index-preserved : goal.loop-index-preserved
loop-index-preserved c =
    let Expects = IsKnownIn c.args.member.now.mode (configs_in c.args.configs.now) c.args.until c.args.last c.args.plans.now in
    let value = c.index-values-index.result in
    let x = c.in_ok-read_known.field-0 in
    let here : c.loop-index.index < length c.in_ok-values.values.now = omega arith in
    let read : Expects (view value) x =
    subst (λ (v : Value). Expects (view v) x) c.item-item.ensures.value
    (subst (λ (mode : Mode). IsKnownIn mode (configs_in c.args.configs.now) c.args.until c.args.last c.args.plans.now (view c.item-item.result.value) x) c.item-item.ensures.mode
    c.in_ok-read_known.ensures.decoded) in
    record {
      decoded = decode_next Expects c.in_ok-values.values.now c.loop-index.index value x c.loop-index.expectations.items _ here c.index-values-index.is
          c.loop-index.invariant.decoded read c.in_ok-push.ensures.items;
      count = grind (arith, common_steps);
    }

pub returns-clause-decoded : goal.returns-clause-decoded
returns-clause-decoded c =
    let Expects = IsKnownIn c.args.member.now.mode (configs_in c.args.configs.now) c.args.until c.args.last c.args.plans.now in
    let values = c.in_ok-values.values.now in
    let xs = c.loop-index.expectations.items in
    let all : DecodeEach Expects (items_view values) xs =
    subst (λ (vs : List Value). DecodeEach Expects (items_view vs) xs) (take_all c.loop-index.index values (omega arith)) c.loop-index.invariant.decoded in (
      subst (λ (o : Option Items). MatchOption o ⊥ (λ items. DecodeEach Expects items xs)) c.in_ok-values.ensures.items all,
      omega (arith, c.loop-index.invariant.count, c.in_ok-refuse_many.ensures.few),
    )

pub returns-in_err-values-clause-refused : goal.returns-in_err-values-clause-refused
returns-in_err-values-clause-refused c =
    let d = c.args.member.now.mode in
    let value = view c.args.member.now.value in
    handed_on (Decodes d (configs_in c.args.configs.now) c.args.until c.args.last c.args.plans.now value) c.from_residual.result c.in_err-values.field-0.0 c.from_residual.ensures.1
    (λ refusal xs decoded.
    missing (λ items. DecodeEach (IsKnownIn d (configs_in c.args.configs.now) c.args.until c.args.last c.args.plans.now) items xs) (as_array value) c.in_err-values.ensures.items decoded.0.0)

pub returns-in_err-refuse_many-clause-refused : goal.returns-in_err-refuse_many-clause-refused
returns-in_err-refuse_many-clause-refused c =
    let d = c.args.member.now.mode in
    let value = view c.args.member.now.value in
    let Expects = IsKnownIn d (configs_in c.args.configs.now) c.args.until c.args.last c.args.plans.now in
    handed_on (Decodes d (configs_in c.args.configs.now) c.args.until c.args.last c.args.plans.now value) c.from_residual-in_err-refuse_many.result c.in_err-refuse_many.field-0.0 c.from_residual-in_err-refuse_many.ensures.1
    (λ refusal xs decoded.
    let all = decoded_all Expects (as_array value) c.in_ok-values.values.now xs c.in_ok-values.ensures.items decoded.0.0 in
    absurd (omega (arith, all, decoded.0.1, c.in_err-refuse_many.ensures.refused)))

pub returns-in_err-read_known-clause-refused : goal.returns-in_err-read_known-clause-refused
returns-in_err-read_known-clause-refused c =
    let d = c.args.member.now.mode in
    let value = view c.args.member.now.value in
    let Expects = IsKnownIn d (configs_in c.args.configs.now) c.args.until c.args.last c.args.plans.now in
    let one = c.index-values-index.result in
    let here : c.loop-index.index < length c.in_ok-values.values.now = omega arith in
    handed_on (Decodes d (configs_in c.args.configs.now) c.args.until c.args.last c.args.plans.now value) c.from_residual-in_err-read_known.result c.in_err-read_known.field-0.0 c.from_residual-in_err-read_known.ensures.1
    (λ refusal xs decoded.
    let at = no_regex_in Expects d (as_array value) c.in_ok-values.values.now xs c.loop-index.index one c.in_ok-values.ensures.items here c.index-values-index.is decoded.0.0 decoded.1 in
    let Says = λ (e : Mode) (v : Value). IsKnownIn e (configs_in c.args.configs.now) c.args.until c.args.last c.args.plans.now (view v) at.0 × HasNoRegexIn e (view v) in
    c.in_err-read_known.ensures.refused refusal at.0
    (subst (λ (e : Mode). Says e c.item-item.result.value) (sym c.item-item.ensures.mode)
    (subst (λ (v : Value). Says d v) (sym c.item-item.ensures.value) (at.1, at.2))))

pub returns-in_err-push-clause-refused : goal.returns-in_err-push-clause-refused
returns-in_err-push-clause-refused c =
    starved (Decodes c.args.member.now.mode (configs_in c.args.configs.now) c.args.until c.args.last c.args.plans.now (view c.args.member.now.value))
    c.from_residual-in_err-push.result c.from_residual-in_err-push.ensures.1
