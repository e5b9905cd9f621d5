use Rattle.std.proofs.Common.{ℕ, List, Option, codes, subst, sym}
use Rattle.serde_json.specs.Data.{Data}
use Rattle.serde_json.specs.Find.{get_member}
use Rattle.serde_json.specs.View.{members_view, view}
use Rattle.am_json.proofs.Decoding.{narrowed}
use Rattle.am_plans.specs.Expected.{IsTargetIn, IsTargetOf}
use Rattle.am_plans.proofs.expectation.target.read_target.Goals as goal

pub returns-in-Some-clause-refused : goal.returns-in-Some-clause-refused
returns-in-Some-clause-refused c =
    let found = get_member (codes "integration") (members_view c.args.item.now.members) in
    narrowed (λ (t : Option (List ℕ) × Option ℕ). IsTargetOf (view c.in-Some.member.value) t.0 t.1) (λ (t : Option (List ℕ) × Option ℕ). IsTargetIn found t.0 t.1)
    (λ t decoded. subst (λ (o : Option Data). IsTargetIn o t.0 t.1) (sym c.in-Some.ensures.value) decoded)
    c.read_integration.result c.read_integration.ensures.refused
