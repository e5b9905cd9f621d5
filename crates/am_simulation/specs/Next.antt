-- Next: what comes next in a rehearsal.
use Rattle.std.specs.Prelude.{ℕ, ◌+◌, ◌-◌, ◌%◌, ◌&&◌, max, Bool, true, false, nat_le, nat_lt, List, [], ◌∷◌, Option, Some, None}
use Rattle.std.specs.Prelude.{if◌then◌else◌}
use Rattle.std.specs.List.{list_any}
use Rattle.am_board.specs.History.{state_at}
use Rattle.am_model.specs.Begin.{next_due}
use Rattle.am_model.specs.Maintenance.{has_no_alerts}
use Rattle.am_pool.specs.Sendings.{later}
use Rattle.am_simulation.specs.Scene.{Scene, SendingData, Setting}
use Rattle.am_simulation.specs.declared.next.End.{End}
use Rattle.am_simulation.specs.declared.next.Next.{Next}
use Rattle.am_simulation.specs.declared.next.Step.{Step}
use Rattle.am_simulation.specs.declared.next.Step.TheVariants as step
use Rattle.am_terms.specs.declared.rehearsal.TimedAction.{TimedAction}

-- a step at a time
abbrev pub next_at : ℕ → Step → Next
next_at at what = record { at = at; what = what }

-- the earlier of two steps; of one time, the first
abbrev pub earlier : Option Next → Option Next → Option Next
earlier None other = other
earlier (Some n) None = Some n
earlier (Some n) (Some m) = if nat_lt m.at n.at then Some m else Some n

-- a step at a time, unless that is after the end
abbrev pub in_time : ℕ → ℕ → Step → Option Next
in_time until at what = if nat_le at until then Some (next_at at what) else None

-- whether a step comes by a time
abbrev pub comes_by : ℕ → Option Next → Bool
comes_by now None = false
comes_by now (Some n) = nat_le n.at now

-- the first of these ends of the flush at a position, the first of which has this index
abbrev pub next_end_of : ℕ → ℕ → List End → Option Next
next_end_of position index [] = None
next_end_of position index (e ∷ es) = earlier (Some (next_at e.at (step.End position index))) (next_end_of position (index + 1) es)

-- the first end still to come of these flushes, the first of which has this position
abbrev pub next_end : ℕ → List SendingData → Option Next
next_end position [] = None
next_end position (s ∷ ss) = earlier (next_end_of position 0 s.ends) (next_end (position + 1) ss)

-- whether no end is to come
abbrev pub none_left : List End → Bool
none_left [] = true
none_left (e ∷ es) = false

-- the finish, now, of the first of these flushes of which no end is to come; the first has this position
abbrev pub next_finish : ℕ → ℕ → List SendingData → Option Next
next_finish now position [] = None
next_finish now position (s ∷ ss) =
    if none_left s.ends then Some (next_at now (step.Finish position)) else next_finish now (position + 1) ss

-- the first plan
abbrev pub next_plan : ℕ → List TimedAction → Option Next
next_plan until [] = None
next_plan until (p ∷ ps) = in_time until p.at step.Plan

-- the begin of a group that is due at some time: then, or now if that is past
abbrev pub begin_due : ℕ → ℕ → Option ℕ → Option Next
begin_due until now None = None
begin_due until now (Some due) = in_time until (max due now) step.Begin

-- the begin of the group that is due next and has no open flush, unless begins wait for a finish
abbrev pub next_begin : Setting → Scene → Option Next
next_begin r c = if c.blocked then None else begin_due r.until c.clock (next_due (state_at c.board))

-- the first tick after now: ticks come at each multiple of the period after the dispatcher's start
abbrev pub tick_after : ℕ → ℕ → ℕ → ℕ
tick_after since period now = later now (period - (now - since) % period)

-- the removal at the next tick, if some group has no alerts (dispatch.Dispatcher.run, whose ticks come each 30 seconds)
abbrev pub next_removal : Setting → Scene → Option Next
next_removal r c =
    if list_any has_no_alerts (state_at c.board).groups
    then in_time r.until (tick_after r.span.since r.tick c.clock) step.Removal else None

-- what comes next besides removals and begins: the end of a sending, a finish, a plan or a maintenance
abbrev pub next_of_others : Setting → Scene → Option Next
next_of_others r c =
    earlier (earlier (next_end 0 c.sendings) (next_finish c.clock 0 c.sendings))
    (earlier (next_plan r.until c.plans) (in_time r.until c.maintenance step.Maintenance))

-- what comes next besides begins
abbrev pub next_but_begins : Setting → Scene → Option Next
next_but_begins r c = earlier (next_removal r c) (next_of_others r c)

-- another begin at once, where one has just taken a group and it isn't after the end
abbrev pub begins_on : Setting → Scene → Bool
begins_on r c = c.begins && nat_le c.clock r.until

-- the earliest of all; of one time a removal comes first, then ends, finishes, plans, maintenance and begins
abbrev pub next_of_all : Setting → Scene → Option Next
next_of_all r c = earlier (next_but_begins r c) (next_begin r c)

-- what comes next: another begin at once, or else the earliest of all
unfoldable pub next : Setting → Scene → Option Next
next r c = if begins_on r c then Some (next_at c.clock step.Begin) else next_of_all r c
