use Rattle.std.proofs.Common.{◌≡◌, ◌∙◌, eqb-true, length, not, map, filter, count_by, sym, ap, subst, rules, arith}
use Rattle.indexmap.proofs.CallerLemmas.{filter-RetainsPairs}
use Rattle.am_model.specs.Finish.{is_leaving}
use Rattle.am_model.specs.Lists.{without}
use Rattle.am_board.specs.Refinement.{member_state, stamped}
use Rattle.std.specs.Map.{values_of}
use Rattle.am_board.specs.Members.{MemberList}
use Rattle.am_board.specs.Order.{AreIndexes}
use Rattle.am_board.proofs.lemmas.finish.LeavingAlerts.{others_stay, are_unmarked, nothing_leaves, nothing_counts}
use Rattle.am_board.proofs.lemmas.invariant.Members.{members_left, members_gone}
use Rattle.am_board.proofs.lemmas.invariant.Order.{none_there}
use Rattle.am_board.proofs.members.Members.take_leaving.Goals as goal
use Rattle.am_board.proofs.members.Members.take_leaving.Goals.{After-retain}

unmarked_stay : (c : After-retain) → c.retain.new.self.entries ≡ filter (λ e. not e.1.leaves) c.mark_all.new.members.entries
unmarked_stay c = filter-RetainsPairs _ _ _ (λ k v b w g call. search rules) _ _ c.retain.ensures.filtered

stay : (c : After-retain) → c.retain.new.self.entries ≡ filter (λ e. not (is_leaving (map stamped c.args.leaving.now) (member_state e.1))) c.mark_all.new.members.entries
stay c = others_stay c.args.leaving.now c.mark_all.new.members.entries c.retain.new.self.entries c.mark_all.ensures.marks (unmarked_stay c)

pub invariant_of-self : goal.invariant_of-self
invariant_of-self c =
    record { members = are_unmarked c.args.leaving.now c.mark_all.new.members.entries c.retain.new.self.entries c.mark_all.ensures.marks (unmarked_stay ((goal.at.invariant_of-self c).After-retain)) c.mark_all.ensures.keyed; sorted = subst (λ o. AreIndexes o (values_of c.retain.new.self.entries)) (sym c.forget.ensures) (none_there (values_of c.retain.new.self.entries)) }

pub returns-clause-members : goal.returns-clause-members
returns-clause-members c =
    let leaves = is_leaving (map stamped c.args.leaving.now) in
    members_left leaves c.mark_all.new.members.entries c.retain.new.self.entries (stay ((goal.at.returns-clause-members c).After-retain))
    ∙ ap (without leaves) c.mark_all.ensures.states
    ∙ ap (λ (k : MemberList). without leaves (map member_state k.items)) c.self.view_is

pub returns-clause-count : goal.returns-clause-count
returns-clause-count c =
    let leaves = is_leaving (map stamped c.args.leaving.now) in
    let gone = members_gone leaves c.mark_all.new.members.entries c.retain.new.self.entries (stay ((goal.at.returns-clause-count c).After-retain)) in
    let fact = ap (count_by leaves) c.mark_all.ensures.states ∙ ap (λ (k : MemberList). count_by leaves (map member_state k.items)) c.self.view_is in
    omega (arith, gone, fact, c.len.ensures.len, c.len-before.ensures.len)

pub returns-then-is_empty-clause-members : goal.returns-then-is_empty-clause-members
returns-then-is_empty-clause-members c =
    sym (nothing_leaves c.args.leaving.now (eqb-true (length c.args.leaving.now) 0 (sym c.if-is_empty.ensures)) (map member_state c.args.self.now.items))

pub returns-then-is_empty-clause-count : goal.returns-then-is_empty-clause-count
returns-then-is_empty-clause-count c =
    sym (nothing_counts c.args.leaving.now (eqb-true (length c.args.leaving.now) 0 (sym c.if-is_empty.ensures)) (map member_state c.args.self.now.items))
