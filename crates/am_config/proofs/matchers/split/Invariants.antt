use denote.Shadow.{shadow}
use denote.Text.{Utf8}
use Rattle.std.proofs.Common.{◌≡◌, ◌++◌, length, map, string_bytes}
use Rattle.am_config.specs.Matchers.{pieces, unbraced, unquoted, with_front}
use Rattle.am_config.proofs.matchers.split.Given as goal

-- the pieces are those that ended, and behind them those of the rest, the first of which began
abbrev pub invariant-loop-before : goal.invariant-loop-before
invariant-loop-before l = record {
  are : pieces unquoted (unbraced l.fn.text) ≡ map string_bytes l.ended.items ++ with_front (string_bytes l.begun) (pieces l.quoting l.rest);
  text : shadow (Utf8 l.rest);
}

abbrev pub decreases-loop-before : goal.decreases-loop-before
decreases-loop-before l = length l.rest
