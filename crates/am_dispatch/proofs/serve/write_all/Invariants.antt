use Rattle.std.proofs.Common.{length}
use Rattle.am_dispatch.proofs.Sending.{Front}
use Rattle.am_dispatch.proofs.serve.write_all.Given as goal

-- the front was written, the rest is left, and no write has failed
abbrev pub invariant-loop-rest : goal.invariant-loop-rest
invariant-loop-rest g l = Front l.fn.bytes l.rest (g.P.Peer.trail l.fn.peer) (g.P.Peer.trail l.peer)

abbrev pub decreases-loop-rest : goal.decreases-loop-rest
decreases-loop-rest g l = length l.rest
