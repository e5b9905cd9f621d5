-- Play: a rehearsal that ran to its end.
use Rattle.std.specs.Prelude.{◌≡◌, ℕ, zero, suc, List, None}
use Rattle.am_model.specs.declared.config.Config.{Config}
use Rattle.am_board.specs.History.{BoardData}
use Rattle.am_simulation.specs.Next.{next}
use Rattle.am_simulation.specs.Scene.{Scene, Setting, opening_scene}
use Rattle.am_simulation.specs.Steps.{Steps}
use Rattle.am_simulation.specs.declared.span.Span.{Span}
use Rattle.am_terms.specs.declared.event.Event.{Event}
use Rattle.am_terms.specs.declared.rehearsal.TimedAction.{TimedAction}

-- so many steps lead from one scene to another
abbrev pub LeadsIn : Setting → ℕ → Scene → Scene → Type 0
LeadsIn r zero c d = c ≡ d
LeadsIn r (suc k) c d = (between : Scene) × LeadsIn r k c between × Steps r between d

-- some number of steps leads there
abbrev pub Reaches : Setting → Scene → Scene → Type 0
Reaches r c d = (k : ℕ) × LeadsIn r k c d

-- a rehearsal of this configuration and these plans plays to this board and these events: steps lead from its start to a scene that has
-- them, and nothing comes next
pub record PlaysTo (r : Setting) (config : Config) (plans : List TimedAction) (board : BoardData) (events : List Event) : Type 0 where
  pub last : Scene
  pub reached : Reaches r (opening_scene r config plans) last
  pub over : next r last ≡ None
  pub board_is : board ≡ last.board
  pub events_are : events ≡ last.events

-- the span of a dispatcher that runs from the start, and isn't stopped
abbrev pub whole : Span
whole = record { since = 0; cut = None }
