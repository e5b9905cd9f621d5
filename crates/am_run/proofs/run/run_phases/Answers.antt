use Rattle.std.proofs.Common.{◌≡◌, ◌<◌, ◌∙◌, List, ◌∷◌, ◌++◌, [], length, vec_len, sym, ap, subst, arith}
use Rattle.std.specs.Iterator.Adapters.{enumerate_count, enumerate_source}
use Rattle.std.proofs.lemmas.List.{length_push, take_all}
use Rattle.std.proofs.lemmas.List.FromFn.{length-enumerate_from}
use Rattle.std.proofs.lemmas.Iterator.Adapters.{YieldsList-from_vec}
use Rattle.std.proofs.lemmas.Iterator.Consumers.{YieldsList-end, YieldsList-from_enumerate, YieldsList-turn}
use Rattle.std.specs.Prelude.{IsTrue}
use Rattle.am_json.specs.Read.{is_refusal}
use Rattle.am_json.specs.declared.fault.InputFault.{InputFault}
use Rattle.am_run.specs.Runs.{HasRun, lanes_of}
use Rattle.am_run.specs.Stops.{PassesStop}
use Rattle.am_scenario.specs.declared.scenario.Phase.{Phase}
use Rattle.am_run.proofs.lemmas.lanes.Lanes.{numbered}
use Rattle.am_run.proofs.lemmas.phases.Parts.{no_parts, part_next}
use Rattle.am_run.proofs.Refusals.{passed_on}
use Rattle.am_run.proofs.lemmas.phases.Phases.{of_source, turn_made}
use Rattle.am_run.proofs.lemmas.phases.Stops.{run_stops}
use Rattle.am_run.proofs.run.run_phases.Goals as goal

pub run_phase-requires-after_bounds : goal.run_phase-requires-after_bounds
run_phase-requires-after_bounds g c κs within =
    let ls = c.args.phases.items in
    let all = c.into_iter-index-iterator.result in
    let gives = c.into_iter-index-iterator.ensures.into_iter_gives in
    let items : all.iter.rest.items ≡ ls = cc (gives, c.enumerate-index-items.ensures.source, c.into_iter.ensures.rest) in
    let len : all.iter.rest.len ≡ length ls = cc (gives, c.enumerate-index-items.ensures.source, c.into_iter.ensures.len, c.args.phases.ok.0) in
    let count : all.count ≡ 0 = cc (gives, c.enumerate-index-items.ensures.count) in
    let so_far = c.loop-index.yielded in
    let turn = YieldsList-turn (YieldsList-from_enumerate {s = all} (YieldsList-from_vec {s = all.iter} ls items len) count) so_far c.loop-index.index-iterator c.loop-index.yielded_by c.next.result c.next.new.self (c.in-Some.index, c.in-Some.phase) c.in-Some.is c.next.ensures.steps in
    let at = numbered ls (length so_far) c.in-Some.index c.in-Some.phase turn.0 turn.1 in
    subst (λ (p : Phase). vec_len p.lanes < g.N.Name.plan.passes) (sym at.2) (c.requires.lanes (length so_far) c.in-Some.phase at.0)

pub loop-index-init : goal.loop-index-init
loop-index-init g c = record {
  ran = (c.requires.fresh.0, no_parts g.C.Answering.answers g.N.Name.terms _ _ _ c.requires.fresh.1);
  well = c.requires.fresh.2;
}

pub loop-index-preserved : goal.loop-index-preserved
loop-index-preserved g c =
    let ls = c.args.phases.items in
    let all = c.into_iter-index-iterator.result in
    let gives = c.into_iter-index-iterator.ensures.into_iter_gives in
    let items : all.iter.rest.items ≡ ls = cc (gives, c.enumerate-index-items.ensures.source, c.into_iter.ensures.rest) in
    let len : all.iter.rest.len ≡ length ls = cc (gives, c.enumerate-index-items.ensures.source, c.into_iter.ensures.len, c.args.phases.ok.0) in
    let count : all.count ≡ 0 = cc (gives, c.enumerate-index-items.ensures.count) in
    let so_far = c.loop-index.yielded in
    let turn = YieldsList-turn (YieldsList-from_enumerate {s = all} (YieldsList-from_vec {s = all.iter} ls items len) count) so_far c.loop-index.index-iterator c.loop-index.yielded_by c.next.result c.next.new.self (c.in-Some.index, c.in-Some.phase) c.in-Some.is c.next.ensures.steps in
    let at = numbered ls (length so_far) c.in-Some.index c.in-Some.phase turn.0 turn.1 in
    let n = length so_far in
    let m = length (so_far ++ (c.in-Some.index, c.in-Some.phase) ∷ []) in
    let next = length_push so_far (c.in-Some.index, c.in-Some.phase) in
    let was = c.loop-index.run in
    let is = c.run_phase.new.self in
    let so = c.loop-index.invariant.ran in
    record {
      ran = (
        turn_made ls n m c.in-Some.phase (lanes_of was) (lanes_of is) next at.0 at.2 so.0 c.in_ok-run_phase.ensures.lanes,
        part_next g.C.Answering.answers g.N.Name.terms ls n m c.in-Some.phase was.main is.main (lanes_of was) (lanes_of is) was.reports.items is.reports.items next at.0
            at.2 so.0 c.in_ok-run_phase.ensures.lanes so.1 c.in_ok-run_phase.ensures.turn,
      );
      well = c.in_ok-run_phase.ensures.well;
    }

pub returns-clause-ran : goal.returns-clause-ran
returns-clause-ran g c =
    let ls = c.args.phases.items in
    let all = c.into_iter-index-iterator.result in
    let gives = c.into_iter-index-iterator.ensures.into_iter_gives in
    let items : all.iter.rest.items ≡ ls = of_source enumerate_source all c.enumerate-index-items.result c.into_iter.result (λ it. it.rest.items) ls gives c.enumerate-index-items.ensures.source c.into_iter.ensures.rest in
    let len : all.iter.rest.len ≡ length ls =
    of_source enumerate_source all c.enumerate-index-items.result c.into_iter.result (λ it. it.rest.len) (length ls) gives c.enumerate-index-items.ensures.source (c.into_iter.ensures.len ∙ c.args.phases.ok.0)
    in
    let count : all.count ≡ 0 = ap enumerate_count gives ∙ c.enumerate-index-items.ensures.count in
    let end = YieldsList-end (YieldsList-from_enumerate {s = all} (YieldsList-from_vec {s = all.iter} ls items len) count) c.loop-index.yielded c.loop-index.index-iterator c.loop-index.yielded_by c.next.result c.next.new.self c.in-None.is c.next.ensures.steps in
    let all_taken = take_all (length c.loop-index.yielded) ls (omega (arith, end.1, length-enumerate_from 0 ls)) in
    subst (λ (xs : List Phase). HasRun g.C.Answering.answers g.N.Name.terms xs c.loop-index.run) all_taken c.loop-index.invariant.ran

pub returns-in_err-run_phase-clause-full : goal.returns-in_err-run_phase-clause-full
returns-in_err-run_phase-clause-full g c =
    let answers = g.C.Answering.answers in
    let t = g.N.Name.terms in
    let ls = c.args.phases.items in
    let all = c.into_iter-index-iterator.result in
    let gives = c.into_iter-index-iterator.ensures.into_iter_gives in
    let items : all.iter.rest.items ≡ ls = cc (gives, c.enumerate-index-items.ensures.source, c.into_iter.ensures.rest) in
    let len : all.iter.rest.len ≡ length ls = cc (gives, c.enumerate-index-items.ensures.source, c.into_iter.ensures.len, c.args.phases.ok.0) in
    let count : all.count ≡ 0 = cc (gives, c.enumerate-index-items.ensures.count) in
    let so_far = c.loop-index.yielded in
    let turn = YieldsList-turn (YieldsList-from_enumerate {s = all} (YieldsList-from_vec {s = all.iter} ls items len) count) so_far c.loop-index.index-iterator c.loop-index.yielded_by c.next.result c.next.new.self (c.in-Some.index, c.in-Some.phase) c.in-Some.is c.next.ensures.steps in
    let at = numbered ls (length so_far) c.in-Some.index c.in-Some.phase turn.0 turn.1 in
    let was = c.loop-index.run in
    let is = c.run_phase.new.self in
    let so = c.loop-index.invariant in
    passed_on (λ (f : InputFault). IsTrue (is_refusal f) → PassesStop answers t ls is.main (lanes_of is)) c.from_residual.result c.in_err-run_phase.field-0.0
    c.from_residual.ensures.1
    (λ refusal.
    run_stops answers t ls (length so_far) c.in-Some.phase was.main is.main (lanes_of was) (lanes_of is) was.reports.items at.0 at.2 so.ran.0 so.ran.1
    (c.in_err-run_phase.ensures.full refusal so.well))
