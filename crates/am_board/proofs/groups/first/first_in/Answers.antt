use Rattle.std.proofs.Common.{subst}
use Rattle.std.specs.Map.{values_of}
use Rattle.am_board.specs.DueOrder.{IsFront}
use Rattle.am_board.proofs.lemmas.begin.DueWalk.{front_taken}
use Rattle.am_board.proofs.groups.first.first_in.Goals as goal

pub returns-in-Some-free_index-clause-first : goal.returns-in-Some-free_index-clause-first
returns-in-Some-free_index-clause-first c fs keys marked front =
    front_taken fs c.args.t (values_of c.args.groups.now.entries) keys c.in-Some.key.now (subst (IsFront keys) c.in-Some.is front) c.in-Some-free_index.index (c.in-Some-free_index.ensures.free fs marked) c.if-key-t.false
