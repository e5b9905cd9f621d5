use Rattle.std.proofs.Common.{◌≡◌, ◌++◌, string_bytes}
use Rattle.std.specs.Str.{IsUtf8}
use Rattle.std.specs.Str.Iter.{chars_rest}
use Rattle.am_timeline.specs.Shown.{text_shown}
use Rattle.am_timeline.proofs.shown.push_text.Given as goal

-- what was added and what is shown of the rest of the text are the whole
abbrev pub invariant-loop-c : goal.invariant-loop-c
invariant-loop-c l = record {
  text : string_bytes l.out ++ text_shown (chars_rest l.c-iterator) ≡ string_bytes l.fn.out ++ text_shown l.text;
  is_text : IsUtf8 (chars_rest l.c-iterator);
}
