use Rattle.std.proofs.Common.{◌≡◌, ◌∙◌, ◌<◌, ℕ, List, [], length, map, ap, arith, subst, sym, vec_len}
use Rattle.std.proofs.lemmas.Simd.{map-map}
use Rattle.std.specs.List.{range_with_len}
use Rattle.am_desk.specs.Known.{Seen}
use Rattle.am_run.specs.Interleaving.{BeforePhases}
use Rattle.am_run.specs.LaneStates.{HaveMade}
use Rattle.am_run.specs.declared.lane.LaneState.{LaneState}
use Rattle.am_run.proofs.lemmas.lanes.Calls.{fresh_made}
use Rattle.am_run.proofs.lemmas.lanes.Lanes.{first_fresh, fresh_numbers}
use Rattle.am_run.proofs.lemmas.phases.Turns.{first_is_fresh}
use Rattle.am_run.proofs.phase.Run.seated.Goals as goal

pub returns-clause-numbers : goal.returns-clause-numbers
returns-clause-numbers g c =
    let ps = c.args.passes.items in
    let some : 0 < length ps = omega (arith, c.requires, c.args.passes.ok.0) in
    let first = first_fresh 0 ps c.remove-main.result c.requires.0 some c.remove-main.ensures.value in
    let rest = c.remove-main.new.self in
    let count : length rest.items ≡ vec_len c.in_ok-lane_states.lane_states = omega (arith, rest.ok.0, c.in_ok-lane_states.ensures.count) in
    let passes = rw c.remove-main.ensures.items at c.in_ok-lane_states.ensures.passes in (
      first.0,
      sym (map-map (λ (p : Seen). p.number) (λ (s : LaneState g.row.N.Denot). s.pass) c.in_ok-lane_states.lane_states.items)
          ∙ (ap (map (λ (p : Seen). p.number)) passes
          ∙ (fresh_numbers 1 _ first.1 ∙ ap (λ (n : ℕ). range_with_len 1 n) (rw c.remove-main.ensures.items at count))),
    )

pub returns-clause-lanes : goal.returns-clause-lanes
returns-clause-lanes g c =
    let ps = c.args.passes.items in
    let some : 0 < length ps = omega (arith, c.requires, c.args.passes.ok.0) in
    let first = first_fresh 0 ps c.remove-main.result c.requires.0 some c.remove-main.ensures.value in
    let passes = rw c.remove-main.ensures.items at c.in_ok-lane_states.ensures.passes in
    subst (λ (qs : List Seen). HaveMade 0 [] qs) (sym passes) (fresh_made 0 _ first.1)

pub returns-clause-main : goal.returns-clause-main
returns-clause-main g c =
    let ps = c.args.passes.items in
    let some : 0 < length ps = omega (arith, c.requires, c.args.passes.ok.0) in
    let first = first_fresh 0 ps c.remove-main.result c.requires.0 some c.remove-main.ensures.value in
    let passes = rw c.remove-main.ensures.items at c.in_ok-lane_states.ensures.passes in
    subst (λ (qs : List Seen). BeforePhases c.remove-main.result qs c.new.result.items) (sym passes)
    (first_is_fresh 0 ps c.remove-main.result c.requires.0 some c.remove-main.ensures.value, first.1, c.new.ensures.items)

pub returns-clause-well : goal.returns-clause-well
returns-clause-well g c = (c.none.ensures, c.in_ok-lane_states.ensures.well)
