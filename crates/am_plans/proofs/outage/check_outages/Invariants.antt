use Rattle.std.proofs.Common.{◌≡◌, drop}
use Rattle.am_plans.specs.Configs.{configs_in}
use Rattle.am_plans.specs.Decoding.{have_targets}
use Rattle.am_plans.proofs.outage.check_outages.Given as goal

-- all have pointers where those that are left do
abbrev pub invariant-loop-index : goal.invariant-loop-index
invariant-loop-index l = have_targets (configs_in l.configs) (drop l.index l.outages) ≡ have_targets (configs_in l.configs) l.outages
