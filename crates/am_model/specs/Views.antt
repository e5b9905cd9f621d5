-- Views: the rows, groups and counts that a board returns of its state.
use Rattle.std.specs.Prelude.{ℕ, List, length, map, sum_by}
use Rattle.std.specs.Ordering.{ordering_then, nat_cmp}
use Rattle.std.specs.declared.cmp.Ordering.{Ordering}
use Rattle.am_model.specs.declared.record.Record.{Record}
use Rattle.am_model.specs.declared.config.Config.{Config}
use Rattle.am_model.specs.declared.views.Glance.{Glance}
use Rattle.am_model.specs.declared.views.GroupView.{GroupView}
use Rattle.am_model.specs.declared.views.RowView.{RowView}
use Rattle.am_model.specs.declared.views.Summary.{Summary}
use Rattle.am_model.specs.Begin.{alert_cmp}
use Rattle.am_model.specs.Lists.{in_order}
use Rattle.am_model.specs.Replay.{replay}
use Rattle.am_model.specs.State.{GroupState, State, name_cmp}

-- the order of rows: by group, then by integration
abbrev pub row_cmp : RowView → RowView → Ordering
row_cmp a b = ordering_then (name_cmp a.group b.group) (nat_cmp a.integration b.integration)

-- the rows of the log, in their order
abbrev pub row_views : State → List RowView
row_views s = in_order row_cmp s.rows

-- a group as it is shown: its alerts in the order of their label sets
abbrev pub group_view : GroupState → GroupView
group_view g =
    record { group = g.name; due = g.due; flushed = g.flushed; alerts = in_order alert_cmp (map (λ m. m.alert) g.members) }

-- the order of groups: by name
abbrev pub group_cmp : GroupState → GroupState → Ordering
group_cmp g h = name_cmp g.name h.name

-- the groups, in their order
abbrev pub group_views : State → List GroupView
group_views s = map group_view (in_order group_cmp s.groups)

-- how many accepted calls, groups, alerts over all groups, open flushes and log rows there are
pub record SummaryData : Type 0 where
  pub calls : ℕ
  pub groups : ℕ
  pub alerts : ℕ
  pub flushes : ℕ
  pub entries : ℕ

-- a summary that was given
abbrev pub summary_data : Summary → SummaryData
summary_data s = record { calls = s.calls; groups = s.groups; alerts = s.alerts; flushes = s.flushes; entries = s.entries }

-- the summary of so many records that led to a state
abbrev pub summary_at : ℕ → State → SummaryData
summary_at calls s =
    record {
      calls = calls;
      groups = length s.groups;
      alerts = sum_by (λ g. length g.members) s.groups;
      flushes = length s.flushes;
      entries = length s.rows;
    }

-- summary: how much there is after a history
abbrev pub summary : Config → List Record → SummaryData
summary config history = summary_at (length history) (replay config history)

-- the glance of so many records that led to a state: no alerts and no rows
abbrev pub glance_at : ℕ → State → Glance
glance_at calls s = record { calls = calls; groups = length s.groups; flushes = length s.flushes }

-- glance: how many accepted calls, groups and open flushes there are after a history
abbrev pub glance : Config → List Record → Glance
glance config history = glance_at (length history) (replay config history)
