use Rattle.std.proofs.Common.{◌≡◌, ◌+◌, drop, map, take}
use Rattle.am_undelivered.specs.Spans.{sent_of}
use Rattle.am_undelivered.proofs.flush.all_sent.Given as goal

-- the notices so far are there
abbrev pub invariant-loop-notice : goal.invariant-loop-notice
invariant-loop-notice l = l.sent.items ≡ map (sent_of (drop (l.index + 1) l.finishes)) (take l.notice-index l.notices)
