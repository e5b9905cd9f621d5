-- Waits: what a thread finds that waited until a group is due.
use Rattle.std.specs.Prelude.{◌≡◌, ◌<◌, ◌≤◌, ◌+◌, ℕ, Bool, true, false, min, nat_lt, if◌then◌else◌, Option, Some, None, IfSome}
use Rattle.am_alerts.specs.declared.limits.TheConstants.{MAX_TIME}
use Rattle.am_desk.specs.declared.wait.Woken.{Woken}
use Rattle.am_desk.specs.declared.wait.Woken.TheVariants.{Due, Later, Ended}

-- whether a group is due before this time, where the next one is due then
abbrev pub is_earlier : Option ℕ → ℕ → Bool
is_earlier None until = false
is_earlier (Some due) until = nat_lt due until

-- when a group is due, of this wait and due then, that wasn't flushed yet and gets an alert of this start at t (`due_with`)
abbrev pub hastened : ℕ → ℕ → ℕ → ℕ → ℕ
hastened starts wait t due = if nat_lt (starts + wait) t then min due t else due

-- by an alert of this start that comes at a time no group is due earlier of those whose waits are over at `calm`; the shortest wait
-- is this, and no call came later than the latest
abbrev pub StayDue : ℕ → ℕ → ℕ → ℕ → ℕ → Type 0
StayDue latest shortest calm now starts =
    (t wait due : ℕ) → min now MAX_TIME ≤ t → t ≤ latest → shortest ≤ wait → due ≤ calm → hastened starts wait t due ≡ due

-- whether this says that waits are ended
abbrev pub says_ended : Woken → Bool
says_ended (Due due at) = false
says_ended (Later next at) = false
says_ended Ended = true

-- what a thread finds at a time, where the next group without an open flush is due then: it is due; or it isn't yet, or there is none
abbrev pub IsWakeup : Option ℕ → ℕ → Woken → Type 0
IsWakeup next t (Due due at) = (next ≡ Some due) × (due ≤ at) × (at ≡ t)
IsWakeup next t (Later found at) = (next ≡ found) × IfSome found (λ due. at < due) × (at ≡ t)
IsWakeup next t Ended = Unit {0}

-- what a thread finds that waited from a time on: the same, at that time or later
abbrev pub IsWoken : ℕ → Option ℕ → Woken → Type 0
IsWoken now next woken = (t : ℕ) × (now ≤ t) × IsWakeup next t woken
