use Rattle.std.proofs.Common.{◌≡◌, ◌++◌, string_bytes}
use Rattle.std.specs.Prelude.{replicate}
use Rattle.am_terms.proofs.clock.push_blanks.Given as goal

-- so many blanks were added
abbrev pub invariant-loop-blank : goal.invariant-loop-blank
invariant-loop-blank l = string_bytes l.out ≡ string_bytes l.fn.out ++ replicate l._blank 32
