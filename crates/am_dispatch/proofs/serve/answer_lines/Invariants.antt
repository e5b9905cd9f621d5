use Rattle.std.proofs.Common.{◌≤◌, ℕ, List, length, vec_len}
use Rattle.am_json.specs.declared.transfer.TheConstants.{MAX_INPUT}
use Rattle.am_dispatch.specs.declared.event.Event.{Event}
use Rattle.am_dispatch.specs.Serve.{Serving}
use Rattle.am_dispatch.proofs.serve.answer_lines.Given as goal

-- the lines that ended in what was used are answered
abbrev pub invariant-loop-behind : goal.invariant-loop-behind
invariant-loop-behind g l =
    record {
      serving : (first : List Event) (reads : ℕ) → Serving first (g.P.Peer.trail l.fn.peer) reads l.fn.service.session l.fn.line l.fn.bytes
          → Serving first (g.P.Peer.trail l.peer) reads l.service.session l.line l.rest;
      short : vec_len l.line.text ≤ MAX_INPUT;
    }

abbrev pub decreases-loop-behind : goal.decreases-loop-behind
decreases-loop-behind g l = length l.rest
