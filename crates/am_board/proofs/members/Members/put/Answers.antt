use Rattle.std.proofs.Common.{◌≡◌, false, List, map, refl, ap, sym, subst, ◌∙◌}
use Rattle.std.specs.Prelude.{OnOk}
use Rattle.std.specs.Map.{values_of}
use Rattle.indexmap.specs.IndexMap.{insert_entry}
use Rattle.am_alerts.specs.Labels.{same_label_set}
use Rattle.am_alerts.specs.declared.labels.Label.{Label}
use Rattle.am_model.specs.Insert.{same_member}
use Rattle.am_model.specs.Lists.{upsert}
use Rattle.am_board.specs.Refinement.{member_state}
use Rattle.am_board.specs.Members.{MemberList, AreMembers}
use Rattle.am_board.specs.Order.{AreIndexes}
use Rattle.am_board.specs.declared.group.Member.{Member}
use Rattle.am_board.proofs.lemmas.invariant.Members.{are_put, members_put, order_put}
use Rattle.am_board.proofs.members.Members.put.Goals as goal
use Rattle.am_board.proofs.members.Members.put.Goals.{After-unwrap}

-- the alert as it is put in
abbrev unmarked : Member → Member
unmarked m = record { alert = m.alert; stamp = m.stamp; leaves = false }

-- there is capacity, so the entry was made
entered : (c : After-unwrap) → c.insert.new.self.entries ≡ insert_entry same_label_set c.self.inside.members.entries c.args.member.alert.labels (unmarked c.args.member)
entered c =
    subst (λ r. OnOk r (c.insert.new.self.entries ≡ insert_entry same_label_set c.self.inside.members.entries c.args.labels (unmarked c.args.member))) c.unwrap.ensures c.insert.ensures.entries
    ∙ ap (λ l. insert_entry same_label_set c.self.inside.members.entries l (unmarked c.args.member)) c.requires.labels

pub invariant_of-self : goal.invariant_of-self
invariant_of-self c =
    let at = (goal.at.invariant_of-self c).After-unwrap in
    let es = c.self.inside.members.entries in
    let put = are_put (unmarked c.args.member) es c.self.invariant.members refl in
    record {
      members = subst AreMembers (sym (entered at)) put;
      sorted =
          subst (λ (fs : List (List Label × Member)). AreIndexes c.self.inside.order.items (values_of fs)) (sym (entered at))
          (order_put c.self.inside.order.items (unmarked c.args.member) es c.self.invariant.members put c.self.invariant.sorted);
    }

pub returns-clause-members : goal.returns-clause-members
returns-clause-members c =
    let at = (goal.at.returns-clause-members c).After-unwrap in
    ap (λ es. map member_state (values_of es)) (entered at)
    ∙ members_put (unmarked c.args.member) c.self.inside.members.entries c.self.invariant.members
    ∙ ap (λ (k : MemberList). upsert same_member (member_state c.args.member) (map member_state k.items)) c.self.view_is
