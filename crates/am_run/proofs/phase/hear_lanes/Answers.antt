use Rattle.std.proofs.Common.{◌≡◌, ◌<◌, ◌≤◌, ◌+◌, ◌∙◌, [], ◌∷◌, ◌++◌, List, None, length, get_or, take, ap, sym, subst, rules}
use Rattle.std.proofs.lemmas.List.{take_all, take_more}
use Rattle.am_run.specs.LaneStates.{AnyRefused, IsRefusedByLimit, NoneRefused}
use Rattle.am_run.specs.PhaseFaults.{EndsAsFull, HasNoFault}
use Rattle.am_run.specs.declared.lane.LaneState.{LaneState}
use Rattle.am_run.proofs.lemmas.lanes.Refused.{any_before, any_here, none_more}
use Rattle.am_run.proofs.phase.hear_lanes.Goals as goal
use Rattle.am_run.proofs.phase.hear_lanes.Goals.{in-Some, in_default}

pub loop-lane-preserved : goal.loop-lane-preserved
loop-lane-preserved g c =
    let i = c.loop-lane.invariant in
    let ss : List (LaneState g.row.N.Denot) = c.args.lane_states.now in
    let n = c.loop-lane.lane in
    let s : LaneState g.row.N.Denot = c.index-lane_states-lane.result in
    let there : n < length ss = search rules in
    let here : s ≡ get_or ss n s = search rules in
    let more : take (n + 1) ss ≡ take n ss ++ s ∷ [] = take_more ss n s there ∙ ap (λ (x : LaneState g.row.N.Denot). take n ss ++ x ∷ []) (sym here) in
    elim c.match-refused.branch [
      | in-Some w ↦
          record {
            heard = λ none. absurd (w.refuse.ensures.heard (subst HasNoFault w.faults-is none));
            full = λ none ends.
                let by : IsRefusedByLimit s = (w.in-Some.call, w.in-Some.fault, sym c.refused.ensures ∙ w.in-Some.is, w.refuse.ensures.full (subst EndsAsFull w.faults-is ends)) in
                subst (λ (xs : List (LaneState g.row.N.Denot)). AnyRefused xs) (sym more) (any_here (take n ss) s by);
          }
      | in_default w ↦
          record {
            heard = λ none.
                let was = i.heard (subst HasNoFault w.faults-is none) in
                let fine : s.refused ≡ None = sym c.refused.ensures ∙ w.in_default.is in
                (was.0, subst (λ (xs : List (LaneState g.row.N.Denot)). NoneRefused xs) (sym more) (none_more (take n ss) s was.1 fine));
            full = λ none ends. subst (λ (xs : List (LaneState g.row.N.Denot)). AnyRefused xs) (sym more) (any_before (take n ss) (s ∷ []) (i.full none (subst EndsAsFull w.faults-is ends)));
          }
    ]

pub returns-clause-heard : goal.returns-clause-heard
returns-clause-heard g c none =
    let ss : List (LaneState g.row.N.Denot) = c.args.lane_states.now in
    let was = c.loop-lane.invariant.heard none in
    let end : length ss ≤ c.loop-lane.lane = search rules in
    (was.0, subst (λ (xs : List (LaneState g.row.N.Denot)). NoneRefused xs) (take_all c.loop-lane.lane ss end) was.1)
