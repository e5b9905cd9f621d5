-- Plays: a rehearsal plays a legal history, and passes over nothing that is due.
use Rattle.std.specs.Prelude.{◌≡◌, ℕ, ◌<◌, ◌≤◌, max, Bool, true, false, ◌||◌, ◌⊎◌, nat_le, nat_lt, List, [], ◌∷◌, length, find}
use Rattle.std.specs.Option.{IfSome}
use Rattle.am_alerts.specs.declared.limits.TheConstants.{MAX_TIME}
use Rattle.am_model.specs.declared.config.Config.{Config}
use Rattle.am_model.specs.declared.group.GroupName.{GroupName}
use Rattle.am_model.specs.declared.record.Record.{Record}
use Rattle.am_model.specs.Replay.{IsLegal, replay}
use Rattle.am_model.specs.State.{State, is_named}
use Rattle.am_model.specs.look_back.Laws.{has_open}
use Rattle.am_model.specs.look_back.Past.{Past, AtEach, past_of, replay_past, time_at}
use Rattle.am_board.specs.History.{BoardData}
use Rattle.am_paging.specs.InTime.{ended_at}
use Rattle.am_simulation.specs.declared.limits.TheConstants.{BOARD_ID}
use Rattle.am_simulation.specs.Play.{PlaysTo, Reaches}
use Rattle.am_simulation.specs.Scene.{Scene, Setting, opening_scene}
use Rattle.am_terms.specs.declared.event.Event.{Event}
use Rattle.am_terms.specs.declared.rehearsal.TimedAction.{TimedAction}

-- what the history of every play has
abbrev pub EveryPlay : (Setting → Config → List Record → Type 0) → Type 0
EveryPlay P =
    (r : Setting) (config : Config) (plans : List TimedAction) (board : BoardData) (events : List Event)
    → PlaysTo r config plans board events → P r config board.history

-- each reply in it is the one that the definitions give
abbrev pub IsLegalPlay : Setting → Config → List Record → Type 0
IsLegalPlay r config history = IsLegal config BOARD_ID history

-- law: where the limit of open flushes isn't below that of groups, begins wait for a finish in no scene of a rehearsal
abbrev pub NothingBlocks : Type 0
NothingBlocks =
    (r : Setting) (config : Config) (plans : List TimedAction) (c : Scene) → config.limits.groups ≤ config.limits.flushes
    → Reaches r (opening_scene r config plans) c → c.blocked ≡ false

-- ---- nothing due is passed over

-- a time t isn't past a bound, unless the rehearsal's end comes before the bound
abbrev pub ComesBy : Setting → ℕ → ℕ → Type 0
ComesBy r bound t = (t ≤ bound) ⊎ (r.until < bound)

-- whether a flush more is allowed: fewer are open than the limit, or the limit isn't below that of groups
abbrev pub has_place : Config → State → Bool
has_place config s = nat_le config.limits.groups config.limits.flushes || nat_lt (length s.flushes) config.limits.flushes

-- where a flush more is allowed, time goes on with a record only as far as each group without an open flush is due
abbrev pub PassesOverNone : Setting → Config → Record → Past → Type 0
PassesOverNone r config q past =
    has_place config (replay_past config past) ≡ true → (name : GroupName) → has_open name past ≡ false
    → IfSome (find (is_named name) (replay_past config past).groups)
    (λ g. ComesBy r (max (time_at past) g.due) (time_at (q ∷ past)))

-- each record does so
abbrev pub NothingDueIsPassedOver : Setting → Config → List Record → Type 0
NothingDueIsPassedOver r config history = AtEach (PassesOverNone r config) (past_of history)

-- after the last record no flush is open, and no group is due by the end, unless the history goes on after it
abbrev pub NothingDueIsLeft : Setting → Config → List Record → Type 0
NothingDueIsLeft r config history =
    ((replay config history).flushes ≡ [])
    × (r.until < MAX_TIME → has_place config (replay config history) ≡ true
    → (name : GroupName) → IfSome (find (is_named name) (replay config history).groups)
    (λ g. r.until < max (time_at (past_of history)) g.due))

-- where the limit of open flushes isn't below that of groups, each record comes by when each group without an open flush is due and its
-- last flush is finished
abbrev pub BeginsWhenDue : Setting → Config → List Record → Type 0
BeginsWhenDue r config history =
    config.limits.groups ≤ config.limits.flushes
    → AtEach (λ q past. (name : GroupName) → has_open name past ≡ false
    → IfSome (find (is_named name) (replay_past config past).groups)
    (λ g. ComesBy r (max g.due (ended_at name past)) (time_at (q ∷ past)))) (past_of history)
