-- What the reports say of a flush.
use Rattle.std.proofs.Common.{◌≡◌, ◌==◌, ◌&&◌, ℕ, false, List, [], ◌∷◌, ◌++◌, ap, if◌then◌else◌}
use Rattle.am_model.specs.declared.notice.Report.{Report}
use Rattle.am_run.specs.Report.{attempts_on}

-- a last report on another flush says nothing of this one
pub another_at_the_end : (ticket integration : ℕ) (reports : List Report) (r : Report) → (r.ticket == ticket) ≡ false
    → attempts_on ticket integration (reports ++ r ∷ []) ≡ attempts_on ticket integration reports
another_at_the_end ticket integration [] r other = rw other
another_at_the_end ticket integration (first ∷ rest) r other =
    ap (λ (k : ℕ). if (first.ticket == ticket) && (first.integration == integration) then first.attempts else k)
    (another_at_the_end ticket integration rest r other)
