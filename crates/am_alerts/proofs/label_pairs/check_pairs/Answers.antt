use Rattle.std.proofs.Common.{sym, ap, ◌∙◌, refl}
use Rattle.std.proofs.lemmas.Result.{err_from_is_err_and}
use Rattle.am_alerts.specs.Fault.{ok_unless}
use Rattle.am_alerts.specs.Labels.{pair_fault, label_in}
use Rattle.am_alerts.proofs.Faults.{none_from_ok, some_from_err, first_fault-map, first_fault_here, first_fault_more, first_fault_none}
use Rattle.am_alerts.proofs.label_pairs.check_pairs.Goals as goal

pub returns-in_err-check_pair : goal.returns-in_err-check_pair
returns-in_err-check_pair c =
    let pairs = c.args.pairs.now in
    let p = err_from_is_err_and c.from_residual.result c.from_residual.ensures.1 in
    let fault = some_from_err _ _ _ (c.in_err-check_pair.ensures) in
    let found = first_fault_here (λ q. pair_fault (label_in q)) pairs c.loop-pair.pair-index _ _ c.loop-pair-test.true refl
    c.loop-pair.invariant _ fault in
    rw (p.1, p.2) (sym (ap (λ o. ok_unless o tt) (first_fault-map pair_fault label_in pairs ∙ found)))

pub loop-pair-preserved : goal.loop-pair-preserved
loop-pair-preserved c =
    let fine = none_from_ok _ _ (sym (c.in_ok-check_pair.ensures)) in
    first_fault_more (λ q. pair_fault (label_in q)) c.args.pairs.now c.loop-pair.pair-index _ _ c.loop-pair-test.true refl
    c.loop-pair.invariant fine

pub returns : goal.returns
returns c =
    let pairs = c.args.pairs.now in
    sym (ap (λ o. ok_unless o tt) (first_fault-map pair_fault label_in pairs
    ∙ first_fault_none (λ q. pair_fault (label_in q)) pairs _ c.loop-pair-test.false c.loop-pair.invariant))
