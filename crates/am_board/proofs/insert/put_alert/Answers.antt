use Rattle.std.proofs.Common.{◌≡◌, ℕ, Option, Some, None, Ok, sym, ap, subst}
use Rattle.std.specs.Prelude.{IfSome}
use Rattle.am_alerts.specs.AlertData.{AlertData}
use Rattle.am_model.specs.Insert.{names_for}
use Rattle.am_model.specs.State.{State}
use Rattle.am_model.specs.declared.config.Config.{Config}
use Rattle.am_model.specs.declared.record.Inserted.{Inserted}
use Rattle.am_board.specs.Again.{IsPutAgain, PutsAgain}
use Rattle.am_board.specs.GroupNameCache.{AreKept}
use Rattle.am_board.specs.Arrival.{Puts}
use Rattle.am_board.specs.Inserting.{IsReservedState}
use Rattle.am_board.specs.declared.insert.Arrival.{Arrival}
use Rattle.am_board.specs.declared.state.State as kept
use Rattle.am_board.proofs.lemmas.insert.PutAgain.{puts_reserved}
use Rattle.am_board.proofs.lemmas.invariant.GroupNameCache.{kept_put}
use Rattle.am_board.proofs.insert.put_alert.Goals as goal

module _ (config : Config) (now : ℕ) (alert : AlertData) (old mid : kept.State) (o : Option Inserted) (h : PutsAgain config now alert (Ok o) old mid) where
  -- it was put in place
  is_again : (returned : Inserted) → o ≡ Some returned → IsPutAgain config now alert returned old mid
  is_again returned e = subst (λ p. PutsAgain config now alert (Ok p) old mid) e h

  -- it was not
  is_held : o ≡ None → IsReservedState old mid
  is_held e = subst (λ p. PutsAgain config now alert (Ok p) old mid) e h

pub put_again-requires-clause-kept : goal.put_again-requires-clause-kept
put_again-requires-clause-kept c =
    let config : Config = c.args.config.now in
    let kept = c.of-kept.ensures config c.args.state.now.known.items c.args.arrival.alert.labels c.requires.kept c.in_ok-index.ensures.index in
    subst (λ (a : AlertData). IfSome c.of-kept.result (λ names. names.now ≡ names_for config a.labels)) (sym c.with_known_labels-alert.ensures) kept

pub returns-in-Some-clause-kept : goal.returns-in-Some-clause-kept
returns-in-Some-clause-kept c =
    let config : Config = c.args.config.now in
    let old : kept.State = c.args.state.now in
    let alert : AlertData = c.with_known_labels-alert.result in
    let put = is_again config c.args.arrival.time alert old c.put_again.new.state c.in_ok-inserted.field-0 c.in_ok-inserted.ensures c.in-Some.inserted c.in-Some.is in
    subst (λ known. AreKept config known c.args.destinations.now) (sym (ap (λ (s : State). s.known) put.state)) (kept_put config alert old.known.items c.args.destinations.now c.requires.kept)

pub returns-clause-put : goal.returns-clause-put
returns-clause-put c =
    let config : Config = c.args.config.now in
    let old : kept.State = c.args.state.now in
    let mid : kept.State = c.put_again.new.state in
    let alert : AlertData = c.with_known_labels-alert.result in
    let held = is_held config c.args.arrival.time alert old mid c.in_ok-inserted.field-0 c.in_ok-inserted.ensures c.in_default.is in
    let come : AlertData → Arrival = λ a. record { pass = c.args.arrival.pass; time = c.args.arrival.time; alert = a } in
    subst (λ a. Puts config old c.put_routed.new.state (come a) c.put_routed.result) c.with_known_labels-alert.ensures
    (puts_reserved config old mid c.put_routed.new.state (come alert) c.put_routed.result held c.put_routed.ensures.put)
