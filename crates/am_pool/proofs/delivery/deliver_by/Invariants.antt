use Rattle.std.proofs.Common.{◌≡◌, ◌++◌, List}
use Rattle.am_retry.specs.Attempts.{Response, tries_of}
use Rattle.am_retry.specs.Progress.{IsAfterResponses, time_left}
use Rattle.am_pool.specs.Tries.{all_tried_for}
use Rattle.am_pool.proofs.delivery.deliver_by.Given as goal

-- some answers were taken: their tries were appended, and none was refused
abbrev pub invariant-loop-outcome : goal.invariant-loop-outcome
invariant-loop-outcome g l =
    (responses : List Response)
    × IsAfterResponses l.fn.start l.fn.deadline responses l.retry
    × (g.C.Courier.tries l.courier ≡ g.C.Courier.tries l.fn.courier ++ all_tried_for l.fn.notice (tries_of l.fn.start responses))
    × (g.C.Courier.refusals l.courier ≡ g.C.Courier.refusals l.fn.courier)

abbrev pub decreases-loop-outcome : goal.decreases-loop-outcome
decreases-loop-outcome g l = time_left l.retry
