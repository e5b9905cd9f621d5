use Rattle.std.proofs.Common.{◌≡◌, ◌++◌, drop, map, take}
use Rattle.am_undelivered.specs.Spans.{notified_by}
use Rattle.am_undelivered.proofs.span.notify_all.Given as goal

-- the integrations so far have what the flush came to
abbrev pub invariant-loop-index : goal.invariant-loop-index
invariant-loop-index l =
    l.recipients.items ≡ map (notified_by l.flush l.labels l.fires) (take l.index l.fn.recipients.items) ++ drop l.index l.fn.recipients.items
