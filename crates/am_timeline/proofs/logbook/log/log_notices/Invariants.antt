use Rattle.std.proofs.Common.{◌≡◌, ◌&&◌, ℕ, Some, take, if◌then◌else◌}
use Rattle.std.specs.HashMap.{get}
use Rattle.std.specs.HashSet.{contains}
use Rattle.am_model.specs.declared.group.GroupName.{GroupName}
use Rattle.am_model.specs.State.{same_name}
use Rattle.am_timeline.specs.declared.logbook.log.LastEntry.TheVariants.{Logged}
use Rattle.am_timeline.specs.Log.{is_logged, same_log_key, same_note_key}
use Rattle.am_timeline.proofs.logbook.log.log_notices.Given as goal

-- the successes of the notices so far were logged
abbrev pub invariant-loop-notice : goal.invariant-loop-notice
invariant-loop-notice l =
    (name : GroupName) (i : ℕ) → get same_log_key l.logged (record { group = name; integration = i })
    ≡ (if same_name name l.group
    && is_logged (λ k. contains same_note_key l.finish.noted.now (record { number = l.finish.number; integration = k })) l.finish.outcomes.now i
    (take l.notice-index l.notices)
    then Some (Logged l.finish.time) else get same_log_key l.fn.logged (record { group = name; integration = i }))
