use Rattle.std.proofs.Common.{ap}
use Rattle.am_board.specs.Members.{MemberList}
use Rattle.am_board.proofs.group.prepare.Goals as goal

pub returns-clause-group : goal.returns-clause-group
returns-clause-group c = ap (λ (ms : MemberList). record c.args.group.now { members = ms }) c.prepare.ensures.members
