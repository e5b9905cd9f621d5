use Rattle.std.proofs.Common.{map, ap, ◌∙◌}
use Rattle.am_nflog.specs.Members.{is_empty}
use Rattle.am_model.specs.Insert.{same_member}
use Rattle.am_board.specs.Members.{MemberList}
use Rattle.am_board.specs.Refinement.{member_state}
use Rattle.am_board.proofs.lemmas.maintain.Empties.{upsert-some}
use Rattle.am_board.proofs.group.Group.insert.Goals as goal

pub returns-clause-alerts : goal.returns-clause-alerts
returns-clause-alerts c =
    ap (λ (ms : MemberList). is_empty (map member_state ms.items)) c.hasten.ensures.members
    ∙ ap is_empty c.put.ensures.members
    ∙ upsert-some same_member (member_state c.args.member) (map member_state c.args.self.now.members.items)
