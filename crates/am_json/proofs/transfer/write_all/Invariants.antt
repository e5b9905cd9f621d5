use Rattle.std.proofs.Common.{◌≡◌, length}
use Rattle.am_json.proofs.Written.{Front}
use Rattle.am_json.proofs.transfer.write_all.Given as goal

-- the front was written, the rest is left, and no write has failed
abbrev pub invariant-loop-rest : goal.invariant-loop-rest
invariant-loop-rest g l =
    record {
      front : Front l.fn.bytes l.rest (g.K.Sink.taken l.fn.sink) (g.K.Sink.taken l.sink);
      fine : g.K.Sink.failed l.sink ≡ g.K.Sink.failed l.fn.sink;
    }

abbrev pub decreases-loop-rest : goal.decreases-loop-rest
decreases-loop-rest g l = length l.rest
