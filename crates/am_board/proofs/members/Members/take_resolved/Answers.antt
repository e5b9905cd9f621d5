use Rattle.std.proofs.Common.{◌≡◌, true, not, List, map, filter, count_by, sym, ap, ◌∙◌, subst, rules, arith}
use Rattle.std.specs.List.{list_any}
use Rattle.indexmap.proofs.CallerLemmas.{filter-RetainsPairs}
use Rattle.am_alerts.specs.AlertData.{is_resolved}
use Rattle.am_model.specs.Lists.{without}
use Rattle.am_model.specs.State.{MemberState}
use Rattle.am_board.specs.Refinement.{member_state}
use Rattle.std.specs.Map.{values_of}
use Rattle.am_board.specs.Members.{MemberList}
use Rattle.am_board.specs.Order.{AreIndexes}
use Rattle.am_board.specs.declared.group.Member.{Member}
use Rattle.am_board.proofs.lemmas.invariant.Members.{all_stay, none_over, are_left, members_left, members_gone}
use Rattle.am_board.proofs.lemmas.invariant.Order.{none_there}
use Rattle.am_board.proofs.members.Members.take_resolved.Goals as goal
use Rattle.am_board.proofs.members.Members.take_resolved.Goals.{After-retain}

stay : (c : After-retain) → c.retain.new.self.entries ≡ filter (λ e. not ((λ (m : MemberState). is_resolved m.alert c.args.t) (member_state e.1))) c.self.inside.members.entries
stay c = filter-RetainsPairs _ _ _ (λ k v b w g call. search rules) _ _ c.retain.ensures.filtered

pub invariant_of-self : goal.invariant_of-self
invariant_of-self c =
    record { members = are_left (λ (m : MemberState). is_resolved m.alert c.args.t) c.self.inside.members.entries c.retain.new.self.entries (stay ((goal.at.invariant_of-self c).After-retain)) c.self.invariant.members; sorted = subst (λ o. AreIndexes o (values_of c.retain.new.self.entries)) (sym c.forget.ensures) (none_there (values_of c.retain.new.self.entries)) }

pub returns-clause-members : goal.returns-clause-members
returns-clause-members c =
    members_left (λ (m : MemberState). is_resolved m.alert c.args.t) c.self.inside.members.entries c.retain.new.self.entries (stay ((goal.at.returns-clause-members c).After-retain))
    ∙ ap (λ (k : MemberList). without (λ (m : MemberState). is_resolved m.alert c.args.t) (map member_state k.items)) c.self.view_is

pub returns-clause-count : goal.returns-clause-count
returns-clause-count c =
    let gone = members_gone (λ (m : MemberState). is_resolved m.alert c.args.t) c.self.inside.members.entries c.retain.new.self.entries (stay ((goal.at.returns-clause-count c).After-retain)) in
    let fact = ap (λ (k : MemberList). count_by (λ (m : MemberState). is_resolved m.alert c.args.t) (map member_state k.items)) c.self.view_is in
    omega (arith, gone, fact, c.len.ensures.len, c.len-before.ensures.len)

pub returns-then-is_none_resolved-clause-members : goal.returns-then-is_none_resolved-clause-members
returns-then-is_none_resolved-clause-members c =
    let here = c.as_slice.ensures ∙ c.values.ensures.rest ∙ ap (λ (k : MemberList). k.items) c.self.view_is in
    sym (all_stay c.args.t c.args.self.now.items (subst (λ (ms : List Member). not (list_any (λ m. is_resolved m.alert c.args.t) ms) ≡ true) here (sym c.is_none_resolved.ensures ∙ c.if-is_none_resolved.true)))

pub returns-then-is_none_resolved-clause-count : goal.returns-then-is_none_resolved-clause-count
returns-then-is_none_resolved-clause-count c =
    let here = c.as_slice.ensures ∙ c.values.ensures.rest ∙ ap (λ (k : MemberList). k.items) c.self.view_is in
    sym (none_over c.args.t c.args.self.now.items (subst (λ (ms : List Member). not (list_any (λ m. is_resolved m.alert c.args.t) ms) ≡ true) here (sym c.is_none_resolved.ensures ∙ c.if-is_none_resolved.true)))
