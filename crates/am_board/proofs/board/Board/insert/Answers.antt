use Rattle.std.proofs.Common.{List, refl, subst, sym}
use Rattle.am_alerts.specs.AlertData.{AlertData}
use Rattle.am_mute.specs.Inhibit.{RuleData}
use Rattle.am_mute.specs.Sources.{AreLearnt}
use Rattle.am_board.specs.Board.{IsSound}
use Rattle.am_model.specs.declared.record.Call.TheVariants.{Insert}
use Rattle.am_model.specs.declared.record.Reply.TheVariants as replies
use Rattle.am_board.proofs.lemmas.invariant.Calls.{recorded, returned_now, refused, sound_again, caused}
use Rattle.am_board.proofs.lemmas.invariant.Limits.{insert_within, insert_caused}
use Rattle.am_board.proofs.lemmas.invariant.Sound.{good, sound_learnt}
use Rattle.am_board.proofs.board.Board.insert.Goals as goal
use Rattle.am_board.proofs.board.Board.insert.Goals.{After-put_alert-inserted}

pub put_alert-inserted-requires : goal.put_alert-inserted-requires
put_alert-inserted-requires c = record { good = good c.self.inside c.self.invariant; kept = c.self.invariant.destinations }

-- the board is sound before it learns
before : (c : After-put_alert-inserted) → IsSound (record c.self.inside { state = c.put_alert-inserted.new.state })
before c =
    sound_again c.self.inside c.self.invariant c.args.self.now c.self.view_is c.put_alert-inserted.new.state c.args.pass (Insert c.args.now c.args.alert) replies.Inserted _
    (λ x h. h.1 c.self.inside.id) _ refl (λ x h. insert_within c.self.inside c.self.invariant c.args.pass c.args.now c.put_alert-inserted.new.state c.args.alert x h.0 (h.1 c.self.inside.id)) c.put_alert-inserted.result c.put_alert-inserted.ensures.put

-- what was learnt before is of the known alerts with the new one
learnt : (c : After-put_alert-inserted) → AreLearnt c.self.inside.config.rules c.put_alert-inserted.new.state.known.items c.self.inside.sources
learnt c = (before c).sources

pub learn-requires : goal.learn-requires
learn-requires c =
    let at = (goal.at.learn-requires c).After-put_alert-inserted in
    subst (λ (rules : List RuleData). AreLearnt rules c.as_slice-known.result.now c.self.inside.sources) (sym c.as_slice-rules.ensures)
    (subst (λ (known : List AlertData). AreLearnt c.self.inside.config.rules known c.self.inside.sources) (sym c.as_slice-known.ensures.value) (learnt at))

pub invariant_of-self : goal.invariant_of-self
invariant_of-self c =
    let at = (goal.at.invariant_of-self c).After-put_alert-inserted in
    sound_learnt (record c.self.inside { state = c.put_alert-inserted.new.state }) c.learn.new.self c.put_alert-inserted.new.destinations
    (subst (λ (rules : List RuleData). AreLearnt rules c.put_alert-inserted.new.state.known.items c.learn.new.self) c.as_slice-rules.ensures
    (subst (λ (known : List AlertData). AreLearnt c.as_slice-rules.result.now known c.learn.new.self) c.as_slice-known.ensures.value c.learn.ensures.learnt)) c.put_alert-inserted.ensures.kept (before at)

pub returns-clause-recorded : goal.returns-clause-recorded
returns-clause-recorded c =
    recorded c.self.inside c.self.invariant c.args.self.now c.self.view_is c.put_alert-inserted.new.state c.args.pass (Insert c.args.now c.args.alert) replies.Inserted _
    (λ x h. h.1 c.self.inside.id) _ c.put_alert-inserted.result c.put_alert-inserted.ensures.put

pub returns-clause-reply : goal.returns-clause-reply
returns-clause-reply c =
    returned_now c.self.inside c.self.invariant c.args.self.now c.self.view_is c.put_alert-inserted.new.state c.args.pass (Insert c.args.now c.args.alert) replies.Inserted _
    (λ x h. h.1 c.self.inside.id) _ c.put_alert-inserted.result c.put_alert-inserted.ensures.put

pub returns-clause-cause : goal.returns-clause-cause
returns-clause-cause c =
    caused _ _ (insert_caused c.self.inside c.self.invariant c.args.self.now c.self.view_is c.args.alert) _ _ c.put_alert-inserted.result c.put_alert-inserted.ensures.put

pub returns-clause-refused : goal.returns-clause-refused
returns-clause-refused c =
    refused c.self.inside c.self.invariant c.args.self.now c.self.view_is c.put_alert-inserted.new.state c.args.pass (Insert c.args.now c.args.alert) replies.Inserted _
    (λ x h. h.1 c.self.inside.id) _ c.put_alert-inserted.result c.put_alert-inserted.ensures.put
