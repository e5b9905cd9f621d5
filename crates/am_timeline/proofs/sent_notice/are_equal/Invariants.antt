use Rattle.std.proofs.Common.{◌≡◌, ◌<◌, ℕ, Bor, get_or, length}
use Rattle.am_timeline.specs.Comparison.{notice_of}
use Rattle.am_timeline.specs.declared.sent_notice.SentNotice.{SentNotice}
use Rattle.am_timeline.proofs.sent_notice.are_equal.Given as goal

-- the notices so far are equal
abbrev pub invariant-loop-one : goal.invariant-loop-one
invariant-loop-one l =
    (k : ℕ) (d : Bor SentNotice) → k < length l.yielded → notice_of (get_or l.old k d).now ≡ notice_of (get_or l.new k d).now
