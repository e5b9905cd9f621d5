use Rattle.std.proofs.Common.{◌≡◌, ◌++◌, string_bytes}
use Rattle.std.specs.Str.Iter.{chars_rest}
use Rattle.am_alerts.specs.LabelText.{escaped, BeginsWith}
use Rattle.am_alerts.proofs.label_text.push_escaped.Given as goal

-- what was appended and what the rest of the value gives are the value, escaped
abbrev pub invariant-loop-c : goal.invariant-loop-c
invariant-loop-c l = record {
  text : string_bytes l.out ++ escaped (chars_rest l.c-iterator) ≡ string_bytes l.initial.out ++ escaped l.value;
  begins : BeginsWith (string_bytes l.out) (string_bytes l.initial.out);
}
