-- An index of sources, as contracts see it.
use Rattle.std.specs.Prelude.{ℕ, List}
use Rattle.am_mute.specs.declared.sources.SourceKey.{SourceKey}
use Rattle.am_seed.specs.declared.seed.Seed.{Seed}

-- keys of alerts that are sources, keys of those that the target matchers don't match, how many alerts were learnt, and what hashes start
-- from
pub record SourceIndex : Type 0 where
  pub all : List SourceKey
  pub one_sided : List SourceKey
  pub learnt : ℕ
  pub seed : Seed
