use Rattle.std.proofs.Common.{◌≡◌, map, take}
use Rattle.std.specs.Prelude.{All}
use Rattle.std.specs.Map.{values_of}
use Rattle.am_board.specs.Keyed.{AreKeyed}
use Rattle.am_board.specs.Refinement.{member_state}
use Rattle.am_board.specs.Members.{labels_of}
use Rattle.am_board.proofs.lemmas.finish.LeavingAlerts.{IsMarkedBy}
use Rattle.am_board.proofs.members.mark_all.Given as goal

-- those are marked that leave by the ones so far
abbrev pub invariant-loop-found : goal.invariant-loop-found
invariant-loop-found l = record {
  keyed : AreKeyed labels_of l.members.entries;
  states : map member_state (values_of l.members.entries) ≡ map member_state (values_of l.fn.members.entries);
  marks : All (IsMarkedBy (take l.found-index l.leaving)) (values_of l.members.entries);
}
