use Rattle.am_nflog.proofs.Numbering.{numbering_keeps_needed}
use Rattle.am_nflog.proofs.update.numbering_keeps_needed.Goals as goal

pub returns : goal.returns
returns g c = numbering_keeps_needed g.met.M.Eq.laws g.met.N.Eq.laws
