-- Where a text is refused.
use Rattle.std.specs.Prelude.{ℕ}
use Rattle.am_yaml.specs.declared.fault.YamlFault.{YamlFault}
use Rattle.am_yaml.specs.declared.fault.YamlFault.TheVariants.{Refused, TooLong, NoMemory}

-- if a fault has a line and a column, P holds for them
abbrev pub AtLocation : (ℕ → ℕ → Type 0) → YamlFault → Type 0
AtLocation P (Refused line column reason) = P line column
AtLocation P TooLong = Unit {0}
AtLocation P NoMemory = Unit {0}
