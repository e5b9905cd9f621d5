use Rattle.std.proofs.Common.{refl}
use Rattle.am_model.specs.declared.record.Call.TheVariants.{RemoveEmptyGroups}
use Rattle.am_model.specs.declared.record.Reply.TheVariants as replies
use Rattle.am_board.proofs.lemmas.invariant.Calls.{recorded, returned_now, refused, sound_again, caused}
use Rattle.am_board.proofs.lemmas.invariant.Limits.{removal_within, removal_caused}
use Rattle.am_board.proofs.lemmas.invariant.Sound.{good}
use Rattle.am_board.proofs.board.Board.remove_empty_groups.Goals as goal

pub remove_empty-requires : goal.remove_empty-requires
remove_empty-requires c = record { good = good c.self.inside c.self.invariant }

pub invariant_of-self : goal.invariant_of-self
invariant_of-self c =
    sound_again c.self.inside c.self.invariant c.args.self.now c.self.view_is c.remove_empty.new.state c.args.pass (RemoveEmptyGroups c.args.now) replies.EmptyGroupsRemoved _
    (λ x h. h.1 c.self.inside.id) _ refl (λ x h. removal_within c.self.inside c.self.invariant c.args.pass c.args.now c.remove_empty.new.state x h.0 (h.1 c.self.inside.id)) c.remove_empty.result c.remove_empty.ensures

pub returns-clause-recorded : goal.returns-clause-recorded
returns-clause-recorded c =
    recorded c.self.inside c.self.invariant c.args.self.now c.self.view_is c.remove_empty.new.state c.args.pass (RemoveEmptyGroups c.args.now) replies.EmptyGroupsRemoved _
    (λ x h. h.1 c.self.inside.id) _ c.remove_empty.result c.remove_empty.ensures

pub returns-clause-reply : goal.returns-clause-reply
returns-clause-reply c =
    returned_now c.self.inside c.self.invariant c.args.self.now c.self.view_is c.remove_empty.new.state c.args.pass (RemoveEmptyGroups c.args.now) replies.EmptyGroupsRemoved _
    (λ x h. h.1 c.self.inside.id) _ c.remove_empty.result c.remove_empty.ensures

pub returns-clause-cause : goal.returns-clause-cause
returns-clause-cause c =
    caused _ _ (removal_caused c.self.inside c.self.invariant c.args.self.now c.self.view_is) _ _ c.remove_empty.result c.remove_empty.ensures

pub returns-clause-refused : goal.returns-clause-refused
returns-clause-refused c =
    refused c.self.inside c.self.invariant c.args.self.now c.self.view_is c.remove_empty.new.state c.args.pass (RemoveEmptyGroups c.args.now) replies.EmptyGroupsRemoved _
    (λ x h. h.1 c.self.inside.id) _ c.remove_empty.result c.remove_empty.ensures
