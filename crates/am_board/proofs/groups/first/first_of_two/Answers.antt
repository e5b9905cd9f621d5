use Rattle.std.proofs.Common.{subst}
use Rattle.am_board.specs.Beginning.{IsFirstOfKeys}
use Rattle.am_board.proofs.lemmas.begin.DueWalk.{first_of_both}
use Rattle.am_board.proofs.groups.first.first_of_two.Goals as goal

pub returns-in-Some-clause-first : goal.returns-in-Some-clause-first
returns-in-Some-clause-first c fs t keys more mine other =
    first_of_both fs t c.args.groups.now keys more c.in-Some.i c.args.other c.earlier.result c.earlier.ensures.within c.earlier.ensures.lesser (subst (IsFirstOfKeys fs t c.args.groups.now keys) c.in-Some.is mine) other
