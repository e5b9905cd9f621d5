-- The limits and the fault's numbers, by their values.
use Rattle.std.specs.Prelude.{◌≡◌, [], ◌∷◌}
use Rattle.am_pool.specs.declared.fault.PoolFault.TheVariants.{NoMemory, TooManyJobs, BadWorkers}
use Rattle.am_pool.specs.declared.law.TheConstants.{POOL_FAULTS}
use Rattle.am_pool.specs.declared.limits.TheConstants.{MAX_WORKERS, MAX_JOBS}

-- law: 8 workers, 8,192 jobs
abbrev pub LimitsAre : Type 0
LimitsAre = (MAX_WORKERS ≡ 8) × (MAX_JOBS ≡ 8_192)

-- law: the numbers of the faults of a pool
abbrev pub PoolFaultsAre : Type 0
PoolFaultsAre = POOL_FAULTS ≡ (NoMemory, 1) ∷ (TooManyJobs, 2) ∷ (BadWorkers, 3) ∷ []
