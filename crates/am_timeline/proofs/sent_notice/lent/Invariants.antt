use Rattle.std.proofs.Common.{◌≡◌, map, take}
use Rattle.am_timeline.specs.Comparison.{notice_of}
use Rattle.am_timeline.proofs.sent_notice.lent.Given as goal

-- the notices so far were added
abbrev pub invariant-loop-notice : goal.invariant-loop-notice
invariant-loop-notice l = map (λ n. notice_of n.now) l.found.items ≡ map notice_of (take l.notice-index l.notices)
