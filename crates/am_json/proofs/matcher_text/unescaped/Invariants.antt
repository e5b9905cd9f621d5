use denote.Shadow.{shadow}
use denote.Text.{Utf8}
use Rattle.std.proofs.Common.{◌≡◌, ◌++◌, false, length, option_map, string_bytes}
use Rattle.am_json.specs.MatcherText.{unescaped}
use Rattle.am_json.proofs.matcher_text.unescaped.Given as goal

-- what was read so far is before what the rest represents
abbrev pub invariant-loop-plain : goal.invariant-loop-plain
invariant-loop-plain l = record {
  holds : unescaped false l.fn.written ≡ option_map (λ r. string_bytes l.value ++ r) (unescaped false l.rest);
  text : shadow (Utf8 l.rest);
}

abbrev pub decreases-loop-plain : goal.decreases-loop-plain
decreases-loop-plain l = length l.rest
