-- A row without a cause against it can be loaded.
use Rattle.std.proofs.Common.{◌≡◌, ℕ, true, false, not, ◌&&◌, nat_lt, nat_le, None, Some, refl, arith, if◌then◌else◌}
use Rattle.std.proofs.lemmas.Bool.Decides.{nat_tests}
use Rattle.am_model.specs.Causes.{row_cause}
use Rattle.am_model.specs.Load.{has_integration, is_ordered, may_load}
use Rattle.am_model.specs.declared.config.Config.{Config}
use Rattle.am_model.specs.declared.fault.LoadFault.TheVariants as load
use Rattle.am_model.specs.declared.views.RowView.{RowView}

pub load-allowed : (config : Config) (t : ℕ) (row : RowView) → row_cause config t row ≡ None → may_load config t row ≡ true
load-allowed config t row none =
    elim (has_integration config row) as (λ b. (if not b then Some load.NoIntegration else (if not (is_ordered row) then Some load.Unordered else (if nat_lt t row.time then Some load.Ahead else None))) ≡ None
    → (b && is_ordered row && nat_le row.time t) ≡ true) [
      | false ↦ λ e. absurd (cc)
      | true ↦ λ e.
          elim (is_ordered row) as (λ b. (if not b then Some load.Unordered else (if nat_lt t row.time then Some load.Ahead else None)) ≡ None → (b && nat_le row.time t) ≡ true) [
            | false ↦ λ f. absurd (cc)
            | true ↦ λ f.
                elim (nat_lt t row.time) as (λ b. nat_lt t row.time ≡ b → (if b then Some load.Ahead else None) ≡ None → nat_le row.time t ≡ true) [
                  | true ↦ λ g h. absurd (cc)
                  | false ↦ λ g h. grind (arith, nat_tests, g)
                ] refl f
          ] e
    ] none
