use Rattle.std.proofs.Common.{◌≡◌, ◌∙◌, ◌≤◌, ◌+◌, List, None, Some, ap, sym, arith, drop}
use Rattle.am_model.specs.declared.record.Record.{Record}
use Rattle.am_model.specs.Outcomes.{outcomes_in}
use Rattle.am_timeline.specs.Finishes.{first_finish}
use Rattle.am_timeline.proofs.Finished.{nowhere, up_to}
use Rattle.am_timeline.proofs.finishes.Finishes.outcomes_after.Goals as goal

pub returns-in-None : goal.returns-in-None
returns-in-None c =
    let n = c.args.number in
    let k = c.args.index + 1 in
    let history = c.self.inside.history.now in
    let none : first_finish n 0 history ≡ None = sym (c.in-None.ensures.value ∙ c.self.invariant n) in
    sym (ap (λ (h : List Record). outcomes_in n (drop k h)) (sym c.self.view_is) ∙ nowhere n 0 k history none)

pub returns-then-index-place : goal.returns-then-index-place
returns-then-index-place c =
    let n = c.args.number in
    let k = c.args.index + 1 in
    let place = c.in-Some.place.now in
    let history = c.self.inside.history.now in
    let found : first_finish n 0 history ≡ Some place = sym (c.in-Some.ensures.value ∙ c.self.invariant n) in
    let below : k ≤ place = omega (arith, c.if-index-place.true) in
    c.outcomes_in.ensures
    ∙ ap (λ (h : List Record). outcomes_in n h) c.records_from.ensures
    ∙ sym (up_to n 0 k place place history found (omega arith) below)
    ∙ ap (λ (h : List Record). outcomes_in n (drop k h)) c.self.view_is
