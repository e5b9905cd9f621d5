use Rattle.std.proofs.Common.{◌≡◌, ◌∙◌, [], ap, eqb-true, sym}
use Rattle.am_simulation.specs.Scene.{SendingData}
use Rattle.am_simulation.proofs.FlightSteps.{empty_is, ready_there}
use Rattle.am_simulation.proofs.flights.find_ready.Goals as goal

pub returns-then-is_empty : goal.returns-then-is_empty
returns-then-is_empty c =
    let ends = c.behind-list.inside.ends in
    let count : ends.len ≡ 0 = eqb-true ends.len 0 (sym c.is_empty.ensures ∙ c.if-is_empty.true) in
    let none : ends.items ≡ [] = empty_is ends.items (sym ends.ok.0 ∙ count) in
    ready_there c.args.list.now.items c.in_ok-position.position c.args.begin c.index.result.now c.in_ok-position.ensures c.index.ensures
    (ap (λ (s : SendingData). s.ends) (sym c.behind-list.view_is) ∙ none)
