use Rattle.std.proofs.Common.{refl}
use Rattle.am_model.specs.declared.record.Call.TheVariants.{Maintain}
use Rattle.am_model.specs.declared.record.Reply.TheVariants as replies
use Rattle.am_board.proofs.lemmas.invariant.Calls.{recorded, returned_now, refused, sound_again, caused}
use Rattle.am_board.proofs.lemmas.invariant.Limits.{maintain_within, maintain_caused}
use Rattle.am_board.proofs.lemmas.invariant.Sound.{good}
use Rattle.am_board.proofs.board.Board.maintain.Goals as goal

pub sweep-requires : goal.sweep-requires
sweep-requires c = record { good = good c.self.inside c.self.invariant }

pub invariant_of-self : goal.invariant_of-self
invariant_of-self c =
    sound_again c.self.inside c.self.invariant c.args.self.now c.self.view_is c.sweep.new.state c.args.pass (Maintain c.args.now) replies.Maintained _
    (λ x h. h.1 c.self.inside.id) _ refl (λ x h. maintain_within c.self.inside c.self.invariant c.args.pass c.args.now c.sweep.new.state x h.0 (h.1 c.self.inside.id)) c.sweep.result c.sweep.ensures

pub returns-clause-recorded : goal.returns-clause-recorded
returns-clause-recorded c =
    recorded c.self.inside c.self.invariant c.args.self.now c.self.view_is c.sweep.new.state c.args.pass (Maintain c.args.now) replies.Maintained _
    (λ x h. h.1 c.self.inside.id) _ c.sweep.result c.sweep.ensures

pub returns-clause-reply : goal.returns-clause-reply
returns-clause-reply c =
    returned_now c.self.inside c.self.invariant c.args.self.now c.self.view_is c.sweep.new.state c.args.pass (Maintain c.args.now) replies.Maintained _
    (λ x h. h.1 c.self.inside.id) _ c.sweep.result c.sweep.ensures

pub returns-clause-cause : goal.returns-clause-cause
returns-clause-cause c =
    caused _ _ (maintain_caused c.self.inside c.self.invariant c.args.self.now c.self.view_is) _ _ c.sweep.result c.sweep.ensures

pub returns-clause-refused : goal.returns-clause-refused
returns-clause-refused c =
    refused c.self.inside c.self.invariant c.args.self.now c.self.view_is c.sweep.new.state c.args.pass (Maintain c.args.now) replies.Maintained _
    (λ x h. h.1 c.self.inside.id) _ c.sweep.result c.sweep.ensures
