use Rattle.std.proofs.Common.{List, map, sym, ap, ◌∙◌, subst}
use Rattle.std.specs.List.{IsDistinct}
use Rattle.am_model.specs.Insert.{same_member}
use Rattle.am_board.specs.Refinement.{member_state}
use Rattle.am_board.specs.Members.{MemberList}
use Rattle.am_board.specs.Order.{AreIndexes}
use Rattle.am_board.specs.declared.group.Member.{Member}
use Rattle.am_board.proofs.members.Members.prepare.Goals as goal

pub renew-requires-clause-apart : goal.renew-requires-clause-apart
renew-requires-clause-apart c =
    subst (λ (ms : List Member). IsDistinct same_member (map member_state ms)) (sym (c.as_slice-members.ensures ∙ c.values.ensures.rest ∙ ap (λ (k : MemberList). k.items) c.self.view_is)) c.requires

pub renew-requires-clause-known : goal.renew-requires-clause-known
renew-requires-clause-known c = subst (AreIndexes c.self.inside.order.items) (sym (c.as_slice-members.ensures ∙ c.values.ensures.rest)) c.self.invariant.sorted

pub note_members-self-inside-requires-clause-apart : goal.note_members-self-inside-requires-clause-apart
note_members-self-inside-requires-clause-apart c =
    subst (λ (ms : List Member). IsDistinct same_member (map member_state ms)) (sym (c.as_slice-members.ensures ∙ c.values.ensures.rest ∙ ap (λ (k : MemberList). k.items) c.self.view_is)) c.requires

pub note_members-self-inside-requires-clause-known : goal.note_members-self-inside-requires-clause-known
note_members-self-inside-requires-clause-known c = subst (λ ps. AreIndexes ps c.as_slice-members.result.now) (sym c.as_slice-order.ensures.value) c.renew.ensures

pub invariant_of-self : goal.invariant_of-self
invariant_of-self c =
    record { members = c.self.invariant.members; sorted = subst (AreIndexes c.renew.new.order.items) (c.as_slice-members.ensures ∙ c.values.ensures.rest) c.renew.ensures }

pub returns-clause-members : goal.returns-clause-members
returns-clause-members c = c.self.view_is
