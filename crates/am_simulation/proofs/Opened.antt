-- The scene with which a rehearsal starts.
use Rattle.std.proofs.Common.{◌≡◌, ℕ, List, [], false}
use Rattle.am_board.specs.History.{BoardData, opening}
use Rattle.am_model.specs.declared.config.Config.{Config}
use Rattle.am_pool.specs.Sendings.{later}
use Rattle.am_simulation.proofs.Scenes.{scene_of}
use Rattle.am_simulation.specs.Scene.{SendingData, Setting, opening_scene}
use Rattle.am_terms.specs.declared.event.Event.{Event}
use Rattle.am_simulation.specs.declared.limits.TheConstants.{BOARD_ID}
use Rattle.am_terms.specs.declared.rehearsal.TimedAction.{TimedAction}

pub opened : (r : Setting) (config : Config) (plans : List TimedAction) (b : BoardData) (es : List Event) (ps : List TimedAction) (ss : List SendingData) (first : ℕ)
    → b ≡ opening config BOARD_ID → es ≡ [] → ps ≡ plans → ss ≡ [] → first ≡ later r.span.since r.maintain → scene_of b es ps ss r.span.since first false false ≡ opening_scene r config plans
opened r config plans b es ps ss first board events left sendings due = λ i. scene_of (board i) (events i) (left i) (sendings i) r.span.since (due i) false false
