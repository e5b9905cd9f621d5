-- Refinement: how the stored state of a board represents a state of the definitions.
use Rattle.std.specs.Prelude.{◌≡◌, ◌*◌, min, List, [], map, vec_len, is_none, IfSome, IsTrue, All, IsPermutation}
use Rattle.std.specs.VecDeque.{deque_len}
use Rattle.am_alerts.specs.declared.labels.Label.{Label}
use Rattle.am_nflog.specs.Log.{Slots, is_known}
use Rattle.am_model.specs.declared.config.Config.{Config}
use Rattle.am_board.specs.declared.flush.Notified.{Notified}
use Rattle.am_board.specs.declared.flush.LeavingAlert.{LeavingAlert}
use Rattle.am_board.specs.declared.flush.OpenFlush.{OpenFlush}
use Rattle.am_board.specs.declared.group.Group.{Group}
use Rattle.am_model.specs.declared.group.GroupName.{GroupName}
use Rattle.am_board.specs.declared.group.Member.{Member}
use Rattle.am_board.specs.declared.state.State as kept
use Rattle.am_model.specs.Configured.{route_of}
use Rattle.am_board.specs.LogRows.{log_rows}
use Rattle.am_model.specs.State.{MemberState, GroupState, NotifiedState, Stamped, FlushState, State, opening_state, same_name}

-- a kept alert of a group
abbrev pub member_state : Member → MemberState
member_state m = record { alert = m.alert; stamp = m.stamp }

-- a kept group
abbrev pub group_state : Group → GroupState
group_state g = record { name = g.name; due = g.due; flushed = g.flushed; members = map member_state g.members.items }

-- a kept integration that was notified: it is noted where its row's lists are gone
abbrev pub notified_state_of : Notified → NotifiedState
notified_state_of a = record { integration = a.key.integration; nothing = a.nothing; noted = is_none a.sets }

-- a kept alert that was resolved at its flush's begin
abbrev pub stamped : LeavingAlert → Stamped
stamped l = record { labels = l.labels; stamp = l.stamp }

-- a kept open flush
abbrev pub flush_state : OpenFlush → FlushState
flush_state f =
    record {
      number = f.number;
      group = f.group;
      notified = map notified_state_of f.notified.items;
      firing = f.sets.firing;
      resolved = f.sets.resolved;
      leaving = map stamped f.leaving.items;
    }

-- a kept state
abbrev pub state_of : kept.State → State
state_of s =
    record {
      clock = s.clock;
      inserts = s.inserts;
      known = s.known.items;
      groups = map group_state s.groups.items;
      silences = s.silences.items;
      rows = log_rows s.log;
      flushes = map flush_state s.flushes.items;
      next_number = s.next_number;
    }

-- a kept state in which nothing was done yet
pub record IsNew (s : kept.State) : Type 0 where
  pub state : state_of s ≡ opening_state
  pub groups : s.groups.items ≡ []
  pub flushes : s.flushes.items ≡ []
  pub unflushed : deque_len s.flushes ≡ 0
  pub history : s.history.items ≡ []
  pub records : vec_len s.history ≡ 0

-- two states are one except for the order of the log's rows
pub record EqualUpToRowOrder (a b : State) : Type 0 where
  pub rows : IsPermutation a.rows b.rows
  pub rest : a ≡ record b { rows = a.rows }

-- an integration that a flush notified is prepared to be logged: its key is known, and its lists are those of the flush
pub record IsNotified (log : Slots GroupName (List Label)) (f : OpenFlush) (a : Notified) : Type 0 where
  pub group : a.key.group ≡ f.group
  pub known : IsTrue (is_known same_name log a.key)
  pub sets : IfSome a.sets (λ sets. sets ≡ f.sets)

-- a kept flush is prepared for its notes and its finish
pub record IsPrepared (config : Config) (log : Slots GroupName (List Label)) (f : OpenFlush) : Type 0 where
  pub kept_for : f.kept_for ≡ min config.retention (2 * (route_of config f.group).repeat_interval)
  pub notified : All (IsNotified log f) f.notified.items
