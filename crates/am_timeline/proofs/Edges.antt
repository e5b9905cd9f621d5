-- Begins at which the entry of an integration is exactly as old as `repeat_interval`.
use Rattle.std.proofs.Common.{◌≡◌, ◌∙◌, ◌+◌, ℕ, Bool, true, List, Option, Some, None, ap, arith, eq-eqb, eqb-true, sym}
use Rattle.std.specs.Prelude.{◌↔◌}
use Rattle.am_alerts.specs.declared.labels.Label.{Label}
use Rattle.am_model.specs.declared.reason.Reason.TheVariants.{NotYet, RouteMuted}
use Rattle.am_model.specs.declared.views.RowView.{RowView}
use Rattle.am_model.specs.Configured.{route_muted, route_of}
use Rattle.am_model.specs.look_back.Entry.{entry_in, firing_in, resolved_in}
use Rattle.am_model.specs.look_back.Reasons.{SaysWhere}
use Rattle.am_timeline.specs.Edges.{EdgesAreOfAge, IsOfAge}
use Rattle.am_timeline.specs.Timeline.{is_on_edge}

-- the time of an entry
abbrev time_or : Option RowView → ℕ
time_or None = 0
time_or (Some row) = row.time

-- the first time from which a notice is repeated is 1 ms after the edge
edge-is : (t from age : ℕ) (entry : Option RowView) (row : RowView) → entry ≡ Some row → from ≡ row.time + age + 1
    → (is_on_edge t (NotYet from) ≡ true) ↔ IsOfAge age t entry
edge-is t from age entry row is first =
    (λ edge. (row, is, by (eqb-true from (t + 1) edge)), λ old. eq-eqb from (t + 1) (back old.0 old.1 old.2))
  where
    by : from ≡ t + 1 → t ≡ row.time + age
    by e = omega arith

    back : (other : RowView) → entry ≡ Some other → t ≡ other.time + age → from ≡ t + 1
    back other e old =
        let same : row.time ≡ other.time = ap time_or (sym is ∙ e) in
        omega arith

where-is : (muted : Option ℕ) (t from age : ℕ) (entry : Option RowView) (firing resolved : List (List Label)) (send_resolved : Bool)
    → SaysWhere muted (NotYet from) entry firing resolved send_resolved age t
    → (is_on_edge t (NotYet from) ≡ true) ↔ IsOfAge age t entry
where-is None t from age entry firing resolved send_resolved says = edge-is t from age entry says.0 says.1 says.5
where-is (Some until) t from age entry firing resolved send_resolved says = let h : NotYet from ≡ RouteMuted until = says in cc

pub edges_are_of_age : EdgesAreOfAge
edges_are_of_age config name t past i from applies =
    where-is (route_muted config name t) t from (route_of config name).repeat_interval (entry_in config name i.0 past)
    (firing_in config name t past) (resolved_in config name t past) i.1.send_resolved applies
