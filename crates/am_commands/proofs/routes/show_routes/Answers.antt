use Rattle.std.proofs.Common.{inr}
use Rattle.am_commands.proofs.routes.show_routes.Goals as goal

pub returns-clause-rejected : goal.returns-clause-rejected
returns-clause-rejected g c is = inr (c.print_routes-status.ensures.rejected is)
