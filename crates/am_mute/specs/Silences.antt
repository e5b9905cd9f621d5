-- Silences as they are kept.
use Rattle.std.specs.Prelude.{ℕ, List}
use Rattle.am_mute.specs.Silence.{SilenceData}

-- silences, with capacity for so many more
pub record SilenceList : Type 0 where
  pub items : List SilenceData
  pub space : ℕ
