use Rattle.std.proofs.Common.{ap}
use Rattle.am_board.specs.Members.{MemberList}
use Rattle.am_board.specs.declared.group.Member.{Member}
use Rattle.am_board.proofs.lemmas.insert.InIndex.{are_written, labels_written, members_written, unmarked_at}
use Rattle.am_board.proofs.lemmas.invariant.DueKeys.{keys_set}
use Rattle.am_board.proofs.lemmas.invariant.Members.{order_kept}
use Rattle.am_board.proofs.members.Members.replace.Goals as goal

pub invariant_of-self : goal.invariant_of-self
invariant_of-self c =
    let es = c.self.inside.members.entries in
    let was : Member = c.index_mut-member.result.now in
    let m : Member = record { alert = c.args.alert; stamp = c.args.stamp; leaves = was.leaves } in
    let seen = ap (λ (k : MemberList). k.items) c.self.view_is in
    let are = are_written m es c.args.self.now.items c.args.j c.self.invariant.members seen c.requires.index
    (unmarked_at es c.args.j was c.self.invariant.members c.index_mut-member.ensures.value) in
    record {
      members = are;
      sorted = order_kept c.self.inside.order.items es _ c.self.invariant.members.keyed are.keyed (keys_set es c.args.j m) c.self.invariant.sorted;
    }

pub returns-clause-members : goal.returns-clause-members
returns-clause-members c =
    let was : Member = c.index_mut-member.result.now in
    let m : Member = record { alert = c.args.alert; stamp = c.args.stamp; leaves = was.leaves } in
    members_written m c.self.inside.members.entries c.args.self.now.items c.args.j c.self.invariant.members
    (ap (λ (k : MemberList). k.items) c.self.view_is) c.requires.index

pub returns-clause-labels : goal.returns-clause-labels
returns-clause-labels c =
    let es = c.self.inside.members.entries in
    let was : Member = c.index_mut-member.result.now in
    let m : Member = record { alert = c.args.alert; stamp = c.args.stamp; leaves = was.leaves } in
    labels_written m es c.args.self.now.items c.args.j c.self.invariant.members (ap (λ (k : MemberList). k.items) c.self.view_is) c.requires.index
    (unmarked_at es c.args.j was c.self.invariant.members c.index_mut-member.ensures.value)
