use Rattle.std.proofs.Common.{◌≡◌, ℕ, None, take, if◌then◌else◌}
use Rattle.std.specs.Prelude.{nat_lt}
use Rattle.std.specs.HashMap.{get}
use Rattle.am_model.specs.look_back.Past.{past_of}
use Rattle.am_timeline.specs.Entries.{same_flush_key}
use Rattle.am_timeline.specs.Expiry.{expired}
use Rattle.am_timeline.specs.Log.{Follows}
use Rattle.am_timeline.proofs.logbook.entries.expired_entries.Given as goal

-- the records so far were followed, and their expired entries added
abbrev pub invariant-loop-index : goal.invariant-loop-index
invariant-loop-index l = record {
  follows : Follows l.log (past_of (take l.index l.history));
  found : (p i : ℕ) → get same_flush_key l.table (record { index = p; integration = i })
      ≡ (if nat_lt p l.index then expired l.config l.history p i else None);
}
