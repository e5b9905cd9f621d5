use Rattle.std.proofs.Common.{◌≡◌, ◌++◌, string_bytes}
use Rattle.std.specs.Str.{IsUtf8}
use Rattle.std.specs.Str.Iter.{chars_rest}
use Rattle.am_timeline.specs.Json.{uncontrolled}
use Rattle.am_timeline.proofs.json.object.push_uncontrolled.Given as goal

-- what was added and what is written of the rest of the text are the whole
abbrev pub invariant-loop-c : goal.invariant-loop-c
invariant-loop-c l = record {
  text : string_bytes l.out ++ uncontrolled (chars_rest l.c-iterator) ≡ string_bytes l.fn.out ++ uncontrolled l.text;
  is_text : IsUtf8 (chars_rest l.c-iterator);
}
