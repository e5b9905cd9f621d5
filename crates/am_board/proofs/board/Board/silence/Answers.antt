use Rattle.std.proofs.Common.{refl}
use Rattle.am_model.specs.Records.{call_of_silence}
use Rattle.am_model.specs.declared.record.Reply.TheVariants as replies
use Rattle.am_board.proofs.lemmas.invariant.Calls.{recorded, returned_now, refused, sound_again, caused}
use Rattle.am_board.proofs.lemmas.invariant.Limits.{silence_within, silence_caused}
use Rattle.am_board.proofs.lemmas.invariant.Sound.{good}
use Rattle.am_board.proofs.board.Board.silence.Goals as goal

pub put_silence-requires : goal.put_silence-requires
put_silence-requires c = record { good = good c.self.inside c.self.invariant }

pub invariant_of-self : goal.invariant_of-self
invariant_of-self c =
    sound_again c.self.inside c.self.invariant c.args.self.now c.self.view_is c.put_silence.new.state c.args.pass (call_of_silence c.args.now c.args.silence) replies.Silenced _
    (λ x h. h.1 c.self.inside.id) _ refl (λ x h. silence_within c.self.inside c.self.invariant c.args.pass c.args.now c.put_silence.new.state c.args.silence x h.0 (h.1 c.self.inside.id)) c.put_silence.result c.put_silence.ensures

pub returns-clause-recorded : goal.returns-clause-recorded
returns-clause-recorded c =
    recorded c.self.inside c.self.invariant c.args.self.now c.self.view_is c.put_silence.new.state c.args.pass (call_of_silence c.args.now c.args.silence) replies.Silenced _
    (λ x h. h.1 c.self.inside.id) _ c.put_silence.result c.put_silence.ensures

pub returns-clause-reply : goal.returns-clause-reply
returns-clause-reply c =
    returned_now c.self.inside c.self.invariant c.args.self.now c.self.view_is c.put_silence.new.state c.args.pass (call_of_silence c.args.now c.args.silence) replies.Silenced _
    (λ x h. h.1 c.self.inside.id) _ c.put_silence.result c.put_silence.ensures

pub returns-clause-cause : goal.returns-clause-cause
returns-clause-cause c =
    caused _ _ (silence_caused c.self.inside c.self.invariant c.args.self.now c.self.view_is c.args.silence) _ _ c.put_silence.result c.put_silence.ensures

pub returns-clause-refused : goal.returns-clause-refused
returns-clause-refused c =
    refused c.self.inside c.self.invariant c.args.self.now c.self.view_is c.put_silence.new.state c.args.pass (call_of_silence c.args.now c.args.silence) replies.Silenced _
    (λ x h. h.1 c.self.inside.id) _ c.put_silence.result c.put_silence.ensures
