use Rattle.std.proofs.Common.{map, take}
use Rattle.am_console.specs.MatcherWords.{WriteMatchers}
use Rattle.am_commands.proofs.matchers.matchers_of.Given as goal

-- the texts so far write the matchers so far
abbrev pub invariant-loop-text : goal.invariant-loop-text
invariant-loop-text g l = WriteMatchers (map (λ text. text.now) (take l.text-index l.texts)) l.matchers.items
