use Rattle.std.proofs.Common.{List, ◌∙◌, subst}
use Rattle.std.specs.Prelude.{ℕ, Ok}
use Rattle.am_alerts.specs.AlertData.{AlertData}
use Rattle.am_mute.specs.Sources.{AreLearnt}
use Rattle.am_model.specs.declared.record.Call.TheVariants.{Forget}
use Rattle.am_model.specs.declared.record.Reply.TheVariants as replies
use Rattle.am_model.specs.Records.{entry}
use Rattle.am_board.specs.Step.{AppliesCall}
use Rattle.am_board.proofs.lemmas.forget.Forgotten.{same_known}
use Rattle.am_board.proofs.lemmas.invariant.Calls.{recorded, returned_now}
use Rattle.am_board.proofs.lemmas.invariant.Limits.{forget_within}
use Rattle.am_board.proofs.lemmas.invariant.Sound.{good, sound_learnt, sound_still, sound_with}
use Rattle.am_board.proofs.board.Board.forget.Goals as goal

pub forget_idle-requires : goal.forget_idle-requires
forget_idle-requires c = record { good = good c.self.inside c.self.invariant; kept = c.self.invariant.destinations }

-- a refusal leaves the board as it was
pub invariant_of-self : goal.invariant_of-self
invariant_of-self c =
    let b = c.self.inside in
    let still = sound_still b c.self.invariant c.forget_idle.new.state c.in_err-forgotten.ensures.forgot.1 in
    sound_learnt (record b { state = c.forget_idle.new.state }) b.sources c.forget_idle.new.destinations still.sources c.in_err-forgotten.ensures.kept still

pub invariant_of-self-2 : goal.invariant_of-self-2
invariant_of-self-2 c =
    let b = c.self.inside in
    let x = c.in_ok-forgotten.forgotten in
    let new = c.forget_idle.new.state in
    let accepts = c.in_ok-forgotten.ensures.forgot.1 b.id in
    let limits = forget_within b c.self.invariant c.args.pass c.args.now new x c.in_ok-forgotten.ensures.forgot.0 accepts in
    let known = c.as_slice.ensures.value in
    sound_with b c.self.invariant (entry c.args.pass (Forget c.args.now) (replies.Forgotten x)) new accepts c.renew.new.sources c.forget_idle.new.destinations
    (subst (λ (ks : List AlertData). AreLearnt b.config.rules ks c.renew.new.sources) known
    (c.renew.ensures b.state.known.items c.self.invariant.sources (λ none. known ∙ same_known b.config b.id c.args.pass c.args.now b.state new x accepts none)))
    c.in_ok-forgotten.ensures.kept limits.0 limits.1 limits.2

pub returns-clause-recorded : goal.returns-clause-recorded
returns-clause-recorded c =
    let b = c.self.inside in
    let new = c.forget_idle.new.state in
    recorded b c.self.invariant c.args.self.now c.self.view_is new c.args.pass (Forget c.args.now) replies.Forgotten
    (λ x. AppliesCall b.config b.id (entry c.args.pass (Forget c.args.now) (replies.Forgotten x)) b.state new) (λ x h. h) (λ (e : ℕ). Unit {0}) (Ok c.in_ok-forgotten.forgotten) (c.in_ok-forgotten.ensures.forgot.1 b.id)

pub returns-clause-reply : goal.returns-clause-reply
returns-clause-reply c =
    let b = c.self.inside in
    let new = c.forget_idle.new.state in
    returned_now b c.self.invariant c.args.self.now c.self.view_is new c.args.pass (Forget c.args.now) replies.Forgotten
    (λ x. AppliesCall b.config b.id (entry c.args.pass (Forget c.args.now) (replies.Forgotten x)) b.state new) (λ x h. h) (λ (e : ℕ). Unit {0}) (Ok c.in_ok-forgotten.forgotten) (c.in_ok-forgotten.ensures.forgot.1 b.id)
