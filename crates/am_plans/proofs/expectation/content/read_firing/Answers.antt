use Rattle.std.proofs.Common.{List, Option, codes, subst, sym}
use Rattle.std.specs.Option.{option_or}
use Rattle.serde_json.specs.Data.{Data}
use Rattle.serde_json.specs.Find.{get_member}
use Rattle.serde_json.specs.View.{members_view}
use Rattle.am_alerts.specs.declared.labels.Label.{Label}
use Rattle.am_json.proofs.Decoding.{narrowed}
use Rattle.am_plans.specs.Expected.{AreFiringIn, AreSetsIn}
use Rattle.am_plans.proofs.expectation.content.read_firing.Goals as goal

pub returns-in-None-clause-refused : goal.returns-in-None-clause-refused
returns-in-None-clause-refused c =
    let d = c.args.item.now.mode in
    let members = members_view c.args.item.now.members in
    narrowed (AreSetsIn d (get_member (codes "firing") members)) (AreFiringIn d members)
    (λ (sets : Option (List (List Label))) decoded.
    subst (λ (o : Option Data). AreSetsIn d (option_or o (get_member (codes "firing") members)) sets) (sym c.in-None.ensures.value) decoded)
    c.read_sets.result c.read_sets.ensures.refused

pub returns-in-Some-clause-refused : goal.returns-in-Some-clause-refused
returns-in-Some-clause-refused c =
    let d = c.args.item.now.mode in
    let members = members_view c.args.item.now.members in
    narrowed (AreSetsIn d (get_member (codes "exactly") members)) (AreFiringIn d members)
    (λ (sets : Option (List (List Label))) decoded.
    subst (λ (o : Option Data). AreSetsIn d o sets) c.in-Some.ensures.value
    (subst (λ (o : Option Data). AreSetsIn d (option_or o (get_member (codes "firing") members)) sets) (sym c.in-Some.ensures.value) decoded))
    c.read_sets-in-Some.result c.read_sets-in-Some.ensures.refused
