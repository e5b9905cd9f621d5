use Rattle.std.proofs.Common.{◌≡◌, ◌==◌, ◌&&◌, ℕ, None, if◌then◌else◌}
use Rattle.std.specs.Prelude.{nat_lt}
use Rattle.std.specs.HashMap.{get}
use Rattle.std.specs.Option.{option_or}
use Rattle.am_timeline.specs.Entries.{same_flush_key}
use Rattle.am_timeline.specs.Expiry.{expiry_of}
use Rattle.am_timeline.specs.Log.{same_log_key}
use Rattle.am_timeline.proofs.logbook.entries.add_each.Given as goal

-- the entries of the integrations so far were added
abbrev pub invariant-loop-integration : goal.invariant-loop-integration
invariant-loop-integration l =
    (p i : ℕ) → get same_flush_key l.table (record { index = p; integration = i })
    ≡ option_or (if (l.flush.index == p) && nat_lt i l.integration
    then expiry_of l.config l.flush.group.now l.flush.t (get same_log_key l.logged (record { group = l.flush.group.now; integration = i })) else None)
    (get same_flush_key l.fn.table (record { index = p; integration = i }))
