-- Interval: how far apart the begins of a group are, computed from the end of a history, without a state.
use Rattle.std.specs.Prelude.{◌≡◌, ℕ, ◌+◌, ◌≤◌, Bool, true, false, not, ◌&&◌, ◌||◌, ◌==◌, List, [], ◌∷◌}
use Rattle.am_nflog.specs.Members.{is_empty}
use Rattle.am_model.specs.declared.config.Config.{Config}
use Rattle.am_model.specs.declared.group.GroupName.{GroupName}
use Rattle.am_model.specs.declared.record.Record.{Record}
use Rattle.am_model.specs.Configured.{route_of}
use Rattle.am_model.specs.look_back.Entry.{present_in}
use Rattle.am_model.specs.look_back.Past.{Past, AtEach, past_of, time_at, removes_empty_groups, takes}

-- whether a record is a maintenance or a removal of empty groups that found a group without alerts: looking back from it, none is there
abbrev pub found_empty : Config → GroupName → Record → Past → Bool
found_empty config name r past = removes_empty_groups r.call && is_empty (present_in config name past)

-- whether a record took a group at u, and none since then removed the group for having no alerts
abbrev pub begun_since : Config → GroupName → ℕ → Past → Bool
begun_since config name u [] = false
begun_since config name u (r ∷ past) =
    (takes name r.reply && (time_at (r ∷ past) == u)) || (not (found_empty config name r past) && begun_since config name u past)

-- a record that takes a group at t does so at least an interval after each begin of it since which none removed it for having no alerts
abbrev pub KeepsInterval : Config → Record → Past → Type 0
KeepsInterval config r past =
    (name : GroupName) → takes name r.reply ≡ true
    → (u : ℕ) → begun_since config name u past ≡ true
    → u + (route_of config name).group_interval ≤ time_at (r ∷ past)

-- of any two begins of a group, with none between them that removed it for having no alerts, the later is at least an interval later
abbrev pub BeginsKeepTheInterval : Config → List Record → Type 0
BeginsKeepTheInterval config history = AtEach (KeepsInterval config) (past_of history)
