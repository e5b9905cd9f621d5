use Rattle.std.proofs.Common.{◌≡◌, subst}
use Rattle.std.specs.Prelude.{IfOk}
use Rattle.am_model.specs.Rekey.{Reload, rekeyed}
use Rattle.am_model.proofs.rekey.Rekeying.rows.Goals as goal

pub returns : goal.returns
returns c = subst (λ (r : Reload). IfOk c.found_again.result (λ rows. rows.items ≡ rekeyed r c.args.row.now)) c.self.view_is c.found_again.ensures
