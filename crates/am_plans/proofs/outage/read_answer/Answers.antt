use Rattle.std.proofs.Common.{◌≡◌, true, codes}
use Rattle.std.specs.Prelude.{IsTrue}
use Rattle.serde_json.specs.Find.{get_member}
use Rattle.serde_json.specs.View.{members_view, view}
use Rattle.am_json.proofs.Decoding.{found, narrowed, sure}
use Rattle.am_json.specs.Decoding.{HasOr, IsAnswer}
use Rattle.am_retry.specs.declared.outcome.Answer.{Answer}
use Rattle.am_retry.specs.declared.outcome.Answer.TheVariants.{Again}
use Rattle.am_plans.proofs.outage.read_answer.Goals as goal

pub returns-in-Some-clause-refused : goal.returns-in-Some-clause-refused
returns-in-Some-clause-refused c =
    let members = members_view c.args.outage.now.members in
    let value = view c.in-Some.member.value in
    narrowed (λ (a : Answer). IsAnswer value a × IsTrue true) (HasOr IsAnswer Again (codes "answer") members)
    (λ a decoded. (found (a ≡ Again) (λ v. IsAnswer v a) value (get_member (codes "answer") members) c.in-Some.ensures.value decoded, sure))
    c.read.result c.read.ensures.refused
