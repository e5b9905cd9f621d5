use Rattle.std.proofs.Common.{Err, Ok, sym}
use Rattle.std.proofs.lemmas.List.Sorted.{searched}
use Rattle.am_timeline.proofs.Starts.{rising-order, run_at-found, run_at-gap}
use Rattle.am_timeline.proofs.fold_list.run_in.Goals as goal

pub returns-in-Ok : goal.returns-in-Ok
returns-in-Ok c =
    let starts = c.args.starts.now in
    let found = searched starts c.args.index (Ok c.in-Ok.number) c.in-Ok.ensures.position (rising-order 0 starts c.requires.rising) in
    sym (run_at-found 0 starts c.args.runs.now c.args.index c.in-Ok.number _ c.requires.rising c.requires.same found.0 found.1)

pub returns-in-Err : goal.returns-in-Err
returns-in-Err c =
    let starts = c.args.starts.now in
    let gap = searched starts c.args.index (Err c.in-Err.field-0) c.in-Err.ensures.position (rising-order 0 starts c.requires.rising) in
    sym (run_at-gap starts c.args.runs.now c.args.index c.in-Err.field-0 gap.1 gap.2)
