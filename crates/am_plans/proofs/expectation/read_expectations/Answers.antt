use Rattle.std.proofs.Common.{ℕ, List, Option, Some, codes, subst, sym}
use Rattle.serde_json.specs.Data.{Data}
use Rattle.serde_json.specs.Find.{get_member}
use Rattle.serde_json.specs.View.{members_view, view}
use Rattle.am_json.proofs.Decoding.{narrowed}
use Rattle.am_json.specs.declared.reader.Mode.{Mode}
use Rattle.am_model.specs.declared.config.Config.{Config}
use Rattle.am_plans.specs.Configs.{configs_in}
use Rattle.am_plans.specs.Expected.{AreExpectedIn, HaveNoRegexIn, last_end}
use Rattle.am_terms.specs.declared.expectation.Expectation.{Expectation}
use Rattle.am_terms.specs.declared.rehearsal.TimedAction.{TimedAction}
use Rattle.am_plans.proofs.expectation.read_expectations.Goals as goal

abbrev Decodes : Mode → List Config → ℕ → ℕ → List TimedAction → Option Data → List Expectation → Type 0
Decodes d configs until last plans member xs = AreExpectedIn d configs until last plans member xs × HaveNoRegexIn d member

pub returns-in-Some-clause-refused : goal.returns-in-Some-clause-refused
returns-in-Some-clause-refused c =
    let d = c.args.top.now.mode in
    let members = members_view c.args.top.now.members in
    let found = get_member (codes "expect") members in
    let member = c.in-Some.member in
    let last = last_end c.args.until members in
    let plans = c.args.plans.now in
    let configs = configs_in c.args.configs.now in
    narrowed (Decodes member.mode configs c.args.until c.last_end-last.result plans (Some (view member.value))) (Decodes d configs c.args.until last plans found)
    (λ xs decoded.
    subst (λ (l : ℕ). Decodes member.mode configs c.args.until l plans (Some (view member.value)) xs) (sym c.last_end-last.ensures)
    (subst (λ (e : Mode). Decodes e configs c.args.until last plans (Some (view member.value)) xs) (sym c.in-Some.ensures.mode)
    (subst (λ (o : Option Data). Decodes d configs c.args.until last plans o xs) (sym c.in-Some.ensures.value) decoded)))
    c.read_list.result c.read_list.ensures.refused
