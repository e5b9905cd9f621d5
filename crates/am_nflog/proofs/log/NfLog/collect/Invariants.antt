use Rattle.am_nflog.proofs.Sweeps.{IsSwept}
use Rattle.am_nflog.proofs.log.NfLog.collect.Given as goal

abbrev pub invariant-loop-i : goal.invariant-loop-i
invariant-loop-i g l = IsSwept l.t l.i l.fn.self l.self-inside.slots.entries l.gone
