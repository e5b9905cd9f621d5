use Rattle.std.proofs.Common.{◌≡◌, Some, refl, sym, ◌∙◌}
use Rattle.std.specs.List.{position}
use Rattle.std.specs.Map.{keys_of}
use Rattle.std.proofs.lemmas.Bool.{eq-eqb, ne_eqb}
use Rattle.am_alerts.specs.Labels.{same_label_set}
use Rattle.am_board.specs.Finishing.{marked}
use Rattle.am_board.proofs.lemmas.finish.LeavingAlerts.{none_marked, one_marked, other_stays, keyed_still}
use Rattle.am_board.proofs.members.mark.Goals as goal
use Rattle.am_board.proofs.members.mark.Goals.{In-Some}

-- the labels were found at this index
index_is : (c : In-Some) → position (same_label_set c.args.found.now.labels) (keys_of c.args.members.now.entries) ≡ Some c.in-Some.index
index_is c = sym c.get_index_of.ensures.index ∙ c.in-Some.is

pub returns-in_default-clause-marked : goal.returns-in_default-clause-marked
returns-in_default-clause-marked c =
    sym (none_marked c.args.found.now c.args.members.now.entries c.requires (sym c.get_index_of.ensures.index ∙ c.in_default.is))

pub returns-then-found-member-clause-keyed : goal.returns-then-found-member-clause-keyed
returns-then-found-member-clause-keyed c =
    let at = (goal.at.returns-then-found-member-clause-keyed c).In-Some in
    let m = c.index_mut-member.result.now in
    keyed_still c.args.found.now c.args.members.now.entries c.requires c.get_index_of.ensures.unique c.in-Some.index m (index_is at) c.index_mut-member.ensures.value (marked m) refl

pub returns-then-found-member-clause-marked : goal.returns-then-found-member-clause-marked
returns-then-found-member-clause-marked c =
    let at = (goal.at.returns-then-found-member-clause-marked c).In-Some in
    let m = c.index_mut-member.result.now in
    one_marked c.args.found.now c.args.members.now.entries c.requires c.get_index_of.ensures.unique c.in-Some.index m (index_is at) c.index_mut-member.ensures.value
    (eq-eqb c.args.found.now.stamp m.stamp c.if-found-member.true)

pub returns-else-found-member-clause-keyed : goal.returns-else-found-member-clause-keyed
returns-else-found-member-clause-keyed c =
    let at = (goal.at.returns-else-found-member-clause-keyed c).In-Some in
    let m = c.index_mut-member.result.now in
    keyed_still c.args.found.now c.args.members.now.entries c.requires c.get_index_of.ensures.unique c.in-Some.index m (index_is at) c.index_mut-member.ensures.value m refl

pub returns-else-found-member-clause-marked : goal.returns-else-found-member-clause-marked
returns-else-found-member-clause-marked c =
    let at = (goal.at.returns-else-found-member-clause-marked c).In-Some in
    let m = c.index_mut-member.result.now in
    other_stays c.args.found.now c.args.members.now.entries c.requires c.get_index_of.ensures.unique c.in-Some.index m (index_is at) c.index_mut-member.ensures.value
    (ne_eqb c.args.found.now.stamp m.stamp c.if-found-member.false)
