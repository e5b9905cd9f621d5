use Rattle.std.proofs.Common.{◌≡◌, ℕ, List, take}
use Rattle.am_timeline.specs.Tally.{tally_in, tally_of}
use Rattle.am_timeline.proofs.tally.tallies.Given as goal

-- the events so far were counted
abbrev pub invariant-loop-event : goal.invariant-loop-event
invariant-loop-event l =
    (name : List ℕ) → tally_in l.tallies name ≡ tally_of l.playback name (take l.event-index l.playback.events)
