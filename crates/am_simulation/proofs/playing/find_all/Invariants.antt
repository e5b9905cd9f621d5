use Rattle.std.proofs.Common.{◌≡◌, length, take}
use Rattle.std.specs.List.{count_by, flat_map}
use Rattle.am_model.specs.Rekey.{rekeyed}
use Rattle.am_simulation.specs.Playing.{is_taken}
use Rattle.am_simulation.proofs.playing.find_all.Given as goal

-- what the rows so far are found again by, how many of them are taken over, and the reload
abbrev pub invariant-loop-i : goal.invariant-loop-i
invariant-loop-i l = record {
  found : l.log.found.items ≡ flat_map (rekeyed (record { old = l.old; new = l.new })) (take l.i l.rows);
  rows : l.log.rows ≡ length l.rows;
  taken : l.log.taken ≡ count_by (is_taken l.at (record { old = l.old; new = l.new })) (take l.i l.rows);
}
