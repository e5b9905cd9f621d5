use Rattle.std.proofs.Common.{◌≡◌, ◌≤◌, ◌*◌, ◌^◌, take}
use Rattle.std.specs.Prelude.{sum_by}
use Rattle.am_judge.specs.Edge.{shifts_in}
use Rattle.am_judge.proofs.edge.count_shifts.Given as goal

-- those of the playbacks so far were counted, of each less than a `usize` holds
abbrev pub invariant-loop-playback : goal.invariant-loop-playback
invariant-loop-playback l = record {
  counted : l.count ≡ sum_by (shifts_in l.side l.playbacks l.expectation) (take l.playback-index l.playbacks);
  fits : l.count ≤ l.playback-index * 2 ^ 64;
}
