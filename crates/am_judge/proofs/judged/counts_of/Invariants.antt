use Rattle.std.proofs.Common.{◌≡◌, map, take, length}
use Rattle.std.specs.Prelude.{IsTrue}
use Rattle.am_judge.specs.Expectation.{are_few, count_fitting}
use Rattle.am_judge.proofs.judged.counts_of.Given as goal

-- those so far were counted
abbrev pub invariant-loop-expectation : goal.invariant-loop-expectation
invariant-loop-expectation l = record {
  counted : l.counts.items ≡ map (count_fitting l.playbacks) (take l.expectation-index l.expectations);
  few : IsTrue (are_few (length l.playbacks) l.counts.items);
}
