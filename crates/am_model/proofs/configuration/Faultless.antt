-- What a configuration without a fault has.
use Rattle.std.proofs.Common.{◌≡◌, ◌≤◌, Bool, true, false, not, ◌||◌, nat_lt, Option, Some, None, List, [], ◌∷◌, length, refl, arith, if◌then◌else◌}
use Rattle.std.specs.Prelude.{◌==◌}
use Rattle.std.specs.List.{AllByRecursion, list_any}
use Rattle.std.specs.Option.{option_or}
use Rattle.std.proofs.lemmas.Bool.Decides.{nat_tests}
use Rattle.am_alerts.specs.declared.limits.TheConstants.{MAX_DURATION}
use Rattle.am_model.specs.declared.config.Config.{Config}
use Rattle.am_model.specs.declared.config.Receiver.{Receiver}
use Rattle.am_model.specs.declared.config.TheConstants.{MAX_INTEGRATIONS, MAX_RULES, MAX_RECEIVERS}
use Rattle.am_model.specs.declared.config.ConfigFault.TheVariants.{UnknownReceiver, ReceiverTwice, TooManyReceivers, TooManyIntegrations, TooManyRules, BadRetention}
use Rattle.am_model.specs.Config.{config_fault, receivers_fault, bounds_fault, has_receivers, has_receiver_twice, has_many_integrations, is_bad_retention}
use Rattle.am_model.specs.Configured.{HaveFewIntegrations}
use Rattle.am_model.proofs.lists.Distinct.{all_from}

-- where there is no fault, the first cause doesn't hold, and there is none after it
passed : {X : Type 0} (b : Bool) (x : X) (rest : Option X) → (if b then Some x else rest) ≡ None → (b ≡ false) × (rest ≡ None)
passed true x rest e = absurd (cc)
passed false x rest e = (refl, e)

neither : {X : Type 0} (a b : Option X) → option_or a b ≡ None → (a ≡ None) × (b ≡ None)
neither None b e = (refl, e)
neither (Some x) b e = absurd (cc)

few : (rs : List Receiver) → list_any has_many_integrations rs ≡ false → AllByRecursion (λ r. length r.integrations ≤ MAX_INTEGRATIONS) rs
few [] e = tt
few (r ∷ rs) e =
    elim (has_many_integrations r) as (λ b. has_many_integrations r ≡ b → (b || list_any has_many_integrations rs) ≡ false → AllByRecursion (λ (x : Receiver). length x.integrations ≤ MAX_INTEGRATIONS) (r ∷ rs)) [
      | true ↦ λ h g. absurd (cc)
      | false ↦ λ h g. (grind (arith, nat_tests, h), few rs g)
    ] refl e

module _ (config : Config) (sound : config_fault config ≡ None) where
  pub few_integrations : HaveFewIntegrations config
  few_integrations =
      let receivers = (neither (receivers_fault config) (bounds_fault config) sound).0 in
      let first = passed (not (has_receivers config)) UnknownReceiver _ receivers in
      let second = passed (has_receiver_twice config.receivers) ReceiverTwice _ first.1 in
      let third = passed (nat_lt MAX_RECEIVERS (length config.receivers)) TooManyReceivers _ second.1 in
      let fourth = passed (list_any has_many_integrations config.receivers) TooManyIntegrations _ third.1 in
      all_from (λ (r : Receiver). length r.integrations ≤ MAX_INTEGRATIONS) config.receivers (few config.receivers fourth.0)

  pub retention_within : config.retention ≤ MAX_DURATION
  retention_within =
      let bounds = (neither (receivers_fault config) (bounds_fault config) sound).1 in
      let first = passed (nat_lt MAX_RULES (length config.rules)) TooManyRules _ bounds in
      let second = passed (is_bad_retention config.retention) BadRetention _ first.1 in
      elim (config.retention == 0) as (λ b. (b || nat_lt MAX_DURATION config.retention) ≡ false → config.retention ≤ MAX_DURATION) [
        | true ↦ λ e. absurd (cc)
        | false ↦ λ e. grind (arith, nat_tests, e)
      ] second.0
