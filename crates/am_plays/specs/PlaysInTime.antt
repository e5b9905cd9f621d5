-- PlaysInTime: in a play, pages come in time to a receiver that no outage names.
use Rattle.std.specs.Prelude.{◌≡◌, ℕ, ◌<◌, ◌≤◌, Bool, true, not, nat_lt, List, ◌∷◌, Option, Some, None}
use Rattle.std.specs.List.{list_all}
use Rattle.std.specs.Str.{bytes_eq}
use Rattle.am_alerts.specs.declared.labels.Label.{Label}
use Rattle.am_alerts.specs.declared.limits.TheConstants.{MAX_TIME}
use Rattle.am_model.specs.declared.config.Config.{Config}
use Rattle.am_model.specs.declared.group.GroupName.{GroupName}
use Rattle.am_model.specs.declared.record.Record.{Record}
use Rattle.am_model.specs.Configured.{route_of}
use Rattle.am_model.specs.look_back.Past.{AtEach, past_of, time_at}
use Rattle.am_paging.specs.InTime.{AtSome, IsBegunFor, IsOnTime, begun_by, past_until}
use Rattle.am_paging.specs.Paging.{is_due_a_page}
use Rattle.am_simulation.specs.Scene.{Setting}
use Rattle.am_terms.specs.declared.rehearsal.Outage.{Outage}

-- whether no outage is of a receiver
abbrev pub has_no_outage : List ℕ → List Outage → Bool
has_no_outage receiver outages = list_all (λ o. not (bytes_eq o.receiver receiver)) outages

-- whether a dispatcher isn't stopped by a time
abbrev pub runs_past : ℕ → Option ℕ → Bool
runs_past until None = true
runs_past until (Some cut) = nat_lt until cut

-- a group is served: no outage is of its receiver, its dispatcher isn't stopped by the rehearsal's end, and the limit of open flushes isn't
-- below that of groups
pub record IsServed (r : Setting) (config : Config) (name : GroupName) : Type 0 where
  pub reached : has_no_outage (route_of config name).receiver r.outages ≡ true
  pub runs : runs_past r.until r.span.cut ≡ true
  pub ends : r.until < MAX_TIME
  pub places : config.limits.groups ≤ config.limits.flushes

-- each record up to the end is on time for each such group: no later than it is due, nor than the begin of its open flush
abbrev pub PlaysAreOnTime : Setting → Config → List Record → Type 0
PlaysAreOnTime r config history =
    (name : GroupName) → IsServed r config name
    → AtEach (λ q past. time_at (q ∷ past) ≤ r.until → IsOnTime 0 0 config name q past) (past_of history)

-- where a label set is due a page of such a group at each record after x, up to the end, and at the end itself, and the latest time comes
-- before the end, a begin by that time pages
abbrev pub PlaysPageInTime : Setting → Config → List Record → Type 0
PlaysPageInTime r config history =
    (name : GroupName) (labels : List Label) (x : ℕ) → IsServed r config name
    → AtEach (λ q past. x < time_at (q ∷ past) → time_at (q ∷ past) ≤ r.until
    → is_due_a_page config name labels (time_at (q ∷ past)) past ≡ true) (past_of history)
    → is_due_a_page config name labels r.until (past_until r.until (past_of history)) ≡ true
    → begun_by config name 0 x (past_of history) < r.until
    → AtSome (IsBegunFor config name labels x (begun_by config name 0 x (past_of history))) (past_of history)
