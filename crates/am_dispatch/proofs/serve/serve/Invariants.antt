use Rattle.std.proofs.Common.{◌≤◌, [], vec_len}
use Rattle.am_json.specs.declared.transfer.TheConstants.{MAX_INPUT}
use Rattle.am_dispatch.specs.Serve.{Serving}
use Rattle.am_dispatch.proofs.serve.serve.Given as goal

-- so many reads gave something, and the lines that ended in it were answered
abbrev pub invariant-loop : goal.invariant-loop
invariant-loop g l =
    record {
      serving : Serving (g.P.Peer.trail l.fn.peer) (g.P.Peer.trail l.peer) l.counter l.service.session l.line [];
      short : vec_len l.line.text ≤ MAX_INPUT;
    }
