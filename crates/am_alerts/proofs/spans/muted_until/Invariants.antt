use Rattle.std.proofs.Common.{◌≡◌, length}
use Rattle.am_alerts.specs.Spans.{is_muted, muted_until}
use Rattle.am_alerts.proofs.spans.muted_until.Given as goal

abbrev pub invariant-loop-rest : goal.invariant-loop-rest
invariant-loop-rest l = record {
  until : muted_until l.spans l.t ≡ muted_until l.rest l.t;
  muted : is_muted l.spans l.t ≡ is_muted l.rest l.t;
}

abbrev pub decreases-loop-rest : goal.decreases-loop-rest
decreases-loop-rest l = length l.rest
