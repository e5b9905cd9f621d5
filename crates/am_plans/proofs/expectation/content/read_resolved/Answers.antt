use Rattle.std.proofs.Common.{◌≡◌, List, [], Option, Some, codes}
use Rattle.serde_json.specs.Find.{get_member}
use Rattle.serde_json.specs.View.{members_view}
use Rattle.am_alerts.specs.declared.labels.Label.{Label}
use Rattle.am_json.proofs.Decoding.{narrowed}
use Rattle.am_plans.proofs.Decodings.{found_none}
use Rattle.am_plans.specs.Expected.{AreResolvedIn, AreSetsIn}
use Rattle.am_plans.proofs.expectation.content.read_resolved.Goals as goal

pub returns-in-None-clause-refused : goal.returns-in-None-clause-refused
returns-in-None-clause-refused c =
    let d = c.args.item.now.mode in
    let members = members_view c.args.item.now.members in
    narrowed (AreSetsIn d (get_member (codes "resolved") members)) (AreResolvedIn d members)
    (λ (sets : Option (List (List Label))) decoded.
    found_none (AreSetsIn d (get_member (codes "resolved") members) sets) (λ v. sets ≡ Some []) (get_member (codes "exactly") members) c.in-None.ensures.value decoded)
    c.read_sets.result c.read_sets.ensures.refused
