-- Edges: begins at which the entry of an integration is exactly as old as `repeat_interval`.
use Rattle.std.specs.Prelude.{◌≡◌, ℕ, ◌+◌, true, ◌↔◌, Option, Some}
use Rattle.am_model.specs.declared.config.Config.{Config}
use Rattle.am_model.specs.declared.config.Integration.{Integration}
use Rattle.am_model.specs.declared.group.GroupName.{GroupName}
use Rattle.am_model.specs.declared.reason.Reason.TheVariants.{NotYet}
use Rattle.am_model.specs.declared.views.RowView.{RowView}
use Rattle.am_model.specs.Configured.{route_of}
use Rattle.am_model.specs.look_back.Entry.{entry_in}
use Rattle.am_model.specs.look_back.Past.{Past}
use Rattle.am_model.specs.look_back.Reasons.{ReasonApplies}
use Rattle.am_timeline.specs.Timeline.{is_on_edge}

-- the entry of an integration is at t exactly as old as this
abbrev pub IsOfAge : ℕ → ℕ → Option RowView → Type 0
IsOfAge age t entry = (row : RowView) × (entry ≡ Some row) × (t ≡ row.time + age)

-- where a notice isn't repeated yet, a begin is on the edge exactly if its entry is as old as `repeat_interval`
abbrev pub EdgesAreOfAge : Type 0
EdgesAreOfAge =
    (config : Config) (name : GroupName) (t : ℕ) (past : Past) (i : ℕ × Integration) (from : ℕ)
    → ReasonApplies (NotYet from) config name t past i
    → (is_on_edge t (NotYet from) ≡ true) ↔ IsOfAge (route_of config name).repeat_interval t (entry_in config name i.0 past)
