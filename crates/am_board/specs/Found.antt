-- Found: between the code of a begin and of a preview and their definitions. What is found in the group that is taken.
use Rattle.std.specs.Prelude.{◌≡◌, ℕ, Err, Ok, Option, Some, None, Result, map, if◌then◌else◌}
use Rattle.std.specs.VecDeque.{deque_len}
use Rattle.am_model.specs.Begin.{notified_of}
use Rattle.am_model.specs.State.{GroupState}
use Rattle.am_model.specs.declared.fault.Fault.{Fault}
use Rattle.am_model.specs.declared.preview.Preview.{Preview}
use Rattle.am_model.specs.look_back.Preview.{preview_on, reason_of}
use Rattle.am_board.specs.Beginning.{AreRising, IsPlan, IsUnmuted, copies_of, update_of}
use Rattle.am_board.specs.Look.{state_seen}
use Rattle.am_board.specs.declared.found.Found.{Found}
use Rattle.am_board.specs.declared.look.Look.{Look}
use Rattle.am_board.specs.declared.plan.PlannedFlush.{PlannedFlush}

-- what is shown of a group, if it is wanted why
abbrev pub shown_of : Look → GroupState → Option Preview
shown_of look g =
    if look.why
    then Some (preview_on look.config.now (state_seen look) look.t (reason_of look.config.now (state_seen look) look.t) g)
    else None

-- what is found in a group is what the definitions give
pub record Finds (look : Look) (g : GroupState) (f : Found) : Type 0 where
  pub unmuted : IsUnmuted look.config.now (state_seen look) look.t g (copies_of look.t f.unmuted)
  pub rising : AreRising (copies_of look.t f.unmuted)
  pub notified : f.notified.items ≡ map update_of (notified_of look.config.now (state_seen look) look.t g)
  pub preview : f.preview ≡ shown_of look g

-- what a begin is to do with a group, where the board has this id
abbrev pub Plans : Look → ℕ → GroupState → Result (Option PlannedFlush) Fault → Type 0
Plans look id = IsPlan look.config.now id (deque_len look.state.now.flushes) (state_seen look) look.t

-- the same, with what is shown
abbrev pub PlansShown : Look → ℕ → GroupState → Result (Option PlannedFlush × Option Preview) Fault → Type 0
PlansShown look id g (Ok both) = Plans look id g (Ok both.0) × (both.1 ≡ shown_of look g)
PlansShown look id g (Err fault) = Plans look id g (Err fault)
