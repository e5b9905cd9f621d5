-- Board: the invariant of a board's fields.
use Rattle.std.specs.Prelude.{◌≡◌, ◌+◌, ◌≤◌, ◌++◌, None, List, All, length, map, vec_len, vec_capacity}
use Rattle.std.specs.VecDeque.{deque_len}
use Rattle.am_alerts.specs.RoutingTree.{last_of}
use Rattle.am_alerts.specs.declared.limits.TheConstants.{MAX_ROUTES}
use Rattle.am_board.specs.declared.board.Board.TheInside.{Inside}
use Rattle.am_mute.specs.Sources.{AreLearnt}
use Rattle.am_model.specs.declared.config.TheConstants.{MAX_HANDED}
use Rattle.am_model.specs.declared.record.Record.{Record}
use Rattle.am_model.specs.Config.{AreAllowed, config_fault}
use Rattle.am_board.specs.GroupNameCache.{AreKept}
use Rattle.am_board.specs.Group.{names_of, AreRouted}
use Rattle.am_board.specs.Marks.{AreMarked}
use Rattle.am_board.specs.Refinement.{state_of, flush_state, EqualUpToRowOrder, IsPrepared}
use Rattle.am_model.specs.Replay.{replay, IsLegal}

-- the whole history: the records that were handed out, and those that are kept
abbrev pub whole : Inside → List Record
whole b = b.past.items ++ b.state.history.items

-- the whole history is legal, and the state is its replay; the records that were handed out are counted, and no more than the limit; the
-- limits hold; each group's route is there; each open flush has capacity among the kept records for its finish, and is prepared; each
-- group says whether it has an open flush; what was learnt is of the rules and of the known alerts, and the names that are kept for these
-- are those of their groups
pub record IsSound (b : Inside) : Type 0 where
  pub limits : AreAllowed b.config.limits
  pub configured : config_fault b.config ≡ None
  pub few_routes : last_of b.config.routes ≤ MAX_ROUTES
  pub legal : IsLegal b.config b.id (whole b)
  pub agrees : EqualUpToRowOrder (state_of b.state) (replay b.config (whole b))
  pub counted : b.handed ≡ length b.past.items
  pub few : b.handed ≤ MAX_HANDED
  pub names : length (state_of b.state).known ≤ b.config.limits.alerts
  pub groups : length (state_of b.state).groups ≤ b.config.limits.groups
  pub silences : length (state_of b.state).silences ≤ b.config.limits.silences
  pub opened : deque_len b.state.flushes ≤ b.config.limits.flushes
  pub kept : vec_len b.state.history + deque_len b.state.flushes ≤ b.config.limits.history
  pub space : vec_len b.state.history + deque_len b.state.flushes ≤ vec_capacity b.state.history
  pub routed : AreRouted b.config.routes (names_of b.state.groups.items)
  pub prepared : All (IsPrepared b.config b.state.log) b.state.flushes.items
  pub marked : AreMarked (map flush_state b.state.flushes.items) b.state.groups.items
  pub sources : AreLearnt b.config.rules b.state.known.items b.sources
  pub destinations : AreKept b.config b.state.known.items b.destinations
