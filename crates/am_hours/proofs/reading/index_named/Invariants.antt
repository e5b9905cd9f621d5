use Rattle.std.proofs.Common.{◌≡◌, ℕ, ◌<◌, false, [], map, get_or}
use Rattle.std.specs.Str.{str_eq_ignore_ascii_case}
use Rattle.am_hours.proofs.reading.index_named.Given as goal

abbrev pub invariant-loop-name : goal.invariant-loop-name
invariant-loop-name l = record {
  index : l.index ≡ l.name-index;
  none : (k : ℕ) → k < l.name-index → str_eq_ignore_ascii_case l.text (get_or (map (λ name. name.now) l.names) k []) ≡ false;
}
