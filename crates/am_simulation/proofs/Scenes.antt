-- Scenes by their parts.
use Rattle.std.proofs.Common.{◌≡◌, ℕ, Bool, List}
use Rattle.am_board.specs.History.{BoardData}
use Rattle.am_simulation.specs.Scene.{Scene, SendingData}
use Rattle.am_terms.specs.declared.event.Event.{Event}
use Rattle.am_terms.specs.declared.rehearsal.TimedAction.{TimedAction}

-- the scene of these parts
abbrev pub scene_of : BoardData → List Event → List TimedAction → List SendingData → ℕ → ℕ → Bool → Bool → Scene
scene_of board events plans sendings clock maintenance begins blocked =
    record {
      board = board;
      events = events;
      plans = plans;
      sendings = sendings;
      clock = clock;
      maintenance = maintenance;
      begins = begins;
      blocked = blocked;
    }

-- scenes whose boards, events and flushes in flight are the same
pub same_scene : {b b' : BoardData} {es es' : List Event} {ss ss' : List SendingData} → (plans : List TimedAction) (clock maintenance : ℕ) (begins blocked : Bool)
    → b ≡ b' → es ≡ es' → ss ≡ ss' → scene_of b es plans ss clock maintenance begins blocked ≡ scene_of b' es' plans ss' clock maintenance begins blocked
same_scene plans clock maintenance begins blocked board events sendings =
    λ i. scene_of (board i) (events i) plans (sendings i) clock maintenance begins blocked
