-- No flush notifies more integrations than a receiver may have.
use Rattle.std.proofs.Common.{ℕ, ◌≤◌, ◌&&◌, cond, true, false, List, [], ◌∷◌, length, filter, arith}
use Rattle.std.specs.List.{AllByRecursion}
use Rattle.std.specs.Str.{bytes_eq}
use Rattle.std.proofs.lemmas.List.FromFn.{length-enumerate_from}
use Rattle.am_nflog.specs.Members.{is_empty}
use Rattle.am_model.specs.declared.config.Config.{Config}
use Rattle.am_model.specs.declared.config.Receiver.{Receiver}
use Rattle.am_model.specs.declared.config.TheConstants.{MAX_INTEGRATIONS}
use Rattle.am_model.specs.Begin.{label_sets, firing_of, resolved_of, needs, notified_of}
use Rattle.am_model.specs.Configured.{HaveFewIntegrations, route_of, integrations_named, integrations_of}
use Rattle.am_model.specs.State.{GroupState, State}
use Rattle.am_model.proofs.legal.BoundedAlerts.{length-filter}
use Rattle.am_model.proofs.lists.Distinct.{all_to}

named : (name : List ℕ) (receivers : List Receiver) → AllByRecursion (λ r. length r.integrations ≤ MAX_INTEGRATIONS) receivers → length (integrations_named name receivers) ≤ MAX_INTEGRATIONS
named name [] few = omega arith
named name (r ∷ rs) few =
    elim (bytes_eq r.name name) as (λ b. length (cond b r.integrations (integrations_named name rs)) ≤ MAX_INTEGRATIONS) [
      | true ↦ few.0
      | false ↦ named name rs few.1
    ]

-- a receiver has as few as it may
pub few_named : (config : Config) (name : List ℕ) → HaveFewIntegrations config → length (integrations_named name config.receivers) ≤ MAX_INTEGRATIONS
few_named config name few = named name config.receivers (all_to (λ (r : Receiver). length r.integrations ≤ MAX_INTEGRATIONS) config.receivers few)

pub few_notified : (config : Config) (s : State) (t : ℕ) (g : GroupState) → HaveFewIntegrations config → length (notified_of config s t g) ≤ MAX_INTEGRATIONS
few_notified config s t g few =
    let receiver = (route_of config g.name).receiver in
    let firing = label_sets (firing_of config s t g) in
    let resolved = label_sets (resolved_of config s t g) in
    let most = named receiver config.receivers (all_to (λ (r : Receiver). length r.integrations ≤ MAX_INTEGRATIONS) config.receivers few) in
    let count = length-enumerate_from 0 (integrations_named receiver config.receivers) in
    let kept = length-filter (needs config s t g.name firing resolved) (integrations_of config g.name) in
    elim (is_empty firing && is_empty resolved) as (λ b. length (cond b [] (filter (needs config s t g.name firing resolved) (integrations_of config g.name))) ≤ MAX_INTEGRATIONS) [
      | true ↦ omega arith
      | false ↦ omega (arith, most, count, kept)
    ]
